-- One flag more says whether its node has no prompt.
use Rattle.std.proofs.Common.{◌≡◌, Bool, true, false, not, Option, [], arith, length, subst, sym, ap, ◌∙◌, is_none, is_some}
use Rattle.just_sched_history.specs.State.{is_confirmed}
use Rattle.just_sched_history.specs.Tables.{FlagsAre}
use Rattle.just_sched_history.proofs.Confirming.{flag_pushed, confirmed_blank}
use Rattle.just_sched_history.proofs.WantedLaws.{prompt_read}
use Rattle.just_sched_history.proofs.making.unprompted.Goals as goal

-- what isn't there is told to be none
none_told : {A : Type 0} (o : Option A) (b : Bool) → is_some o ≡ not b → b ≡ is_none o
none_told o true e = sym (ap (λ x. not x) e)
none_told o false e = sym (ap (λ x. not x) e)

pub loop-at-preserved : goal.loop-at-preserved
loop-at-preserved c =
    let nodes = c.args.plan.now.nodes in
    let read = prompt_read nodes c.as_slice-nodes.result.now c.loop-at.at c.index-nodes-at.result c.as_slice-nodes.ensures (omega (arith, c.loop-at-test.true, ap (λ xs. length xs) c.as_slice-nodes.ensures)) in
    record {
      len = omega (arith, c.in_ok-push.ensures.len, c.loop-at.invariant.len);
      flags = subst (λ xs. FlagsAre xs (is_confirmed nodes [])) (sym c.in_ok-push.ensures.items)
          (flag_pushed c.loop-at.flags.items c.is_none.result (is_confirmed nodes []) c.loop-at.invariant.flags
          (subst (λ k. c.is_none.result ≡ is_confirmed nodes [] k) (omega (arith, c.loop-at.invariant.len, c.loop-at.flags.ok.0)) (confirmed_blank nodes c.loop-at.at c.is_none.result (none_told _ _ c.is_none.ensures ∙ ap is_none read))));
    }
