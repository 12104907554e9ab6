-- One node more is a member where it has a prompt.
use Rattle.std.proofs.Common.{◌≡◌, ◌<◌, ap, arith, length, sym, ◌∙◌, subst, true, is_some}
use Rattle.just_sched_history.specs.Nodes.{prompt_at}
use Rattle.just_sched_history.specs.Tables.{flag}
use Rattle.just_sched_history.proofs.Below.{below_next}
use Rattle.just_sched_history.proofs.WantedLaws.{prompt_read}
use Rattle.just_sched_history.proofs.making.prompted_nodes.Goals as goal

pub loop-at-preserved : goal.loop-at-preserved
loop-at-preserved c =
    let nodes = c.args.plan.now.nodes in
    let lt : c.loop-at.at < length nodes = omega (arith, c.loop-at-test.true, ap (λ xs. length xs) c.as_slice-nodes.ensures) in
    let read = prompt_read nodes c.as_slice-nodes.result.now c.loop-at.at c.index-nodes-at.result c.as_slice-nodes.ensures lt in
    record {
      size = c.insert_if.ensures.size ∙ c.loop-at.invariant.size;
      each = below_next (λ m. is_some (prompt_at nodes m) ≡ true → flag c.insert_if.new.self.flags.items m ≡ true) c.loop-at.at
          (λ m less some. c.insert_if.ensures.kept m (c.loop-at.invariant.each m less some))
          (λ some. c.insert_if.ensures.there (c.is_some.ensures ∙ ap is_some read ∙ some));
    }
