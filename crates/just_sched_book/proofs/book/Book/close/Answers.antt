-- The verdict is that of the history, and where all went well and nothing is left, the history is complete.
use Rattle.std.proofs.Common.{◌<◌, List, length, ap, sym, ◌∙◌, subst, inr}
use Rattle.just_sched_history.specs.declared.plan_node.PlanNode.{PlanNode}
use Rattle.just_sched_history.specs.Rows.{IsNoted}
use Rattle.just_sched_history.specs.Running.{EachNoIsDone}
use Rattle.just_sched_history.specs.Start.{IsKept, run_of}
use Rattle.just_sched_history.specs.State.{is_open, caught_signal}
use Rattle.just_sched_history.specs.Verdict.{IsVerdict}
use Rattle.just_sched_book.proofs.Accounts.{kept_of, signalled_of}
use Rattle.just_sched_history.proofs.CacheRules.{kept_rule}
use Rattle.just_sched_book.proofs.Ended.{well_complete}
use Rattle.just_sched_book.proofs.book.Book.close.Goals as goal

pub verdict-verdict-requires-clause-closed : goal.verdict-verdict-requires-clause-closed
verdict-verdict-requires-clause-closed g c = λ n lt.
    ap (λ h. is_open h n) c.as_slice.ensures.value ∙ c.requires n (subst (λ (xs : List PlanNode). n < length xs) (ap (λ p. p.nodes) c.args.self.plan_named) lt)

pub verdict-verdict-requires-clause-noted : goal.verdict-verdict-requires-clause-noted
verdict-verdict-requires-clause-noted g c =
    let s = c.args.self in
    subst (λ h. ∥ IsNoted s.plan.nodes s.plan.invocations h s.tables ∥₁) (sym c.as_slice.ensures.value) s.noted

pub verdict-verdict-requires-clause-caught : goal.verdict-verdict-requires-clause-caught
verdict-verdict-requires-clause-caught g c = signalled_of c.args.self.account ∙ ap caught_signal (sym c.as_slice.ensures.value)

pub returns-clause-kept : goal.returns-clause-kept
returns-clause-kept g c =
    let s = c.args.self in
    subst (λ h. ∥ IsKept g.P.Naming.start h (g.H.Host.told s.host) ∥₁) (sym c.from.ensures) (kept_of s.account)

pub returns-clause-verdict : goal.returns-clause-verdict
returns-clause-verdict g c =
    subst (λ h. IsVerdict (run_of g.P.Naming.start) h c.verdict-verdict.result) (c.as_slice.ensures.value ∙ sym c.from.ensures) (c.verdict-verdict.ensures (run_of g.P.Naming.start) (ap (λ p. p.nodes) (sym c.args.self.plan_named)))

pub returns-clause-complete : goal.returns-clause-complete
returns-clause-complete g c = λ well nothing.
    well_complete g.P.Naming.start _ _ c.verdict-verdict.result (returns-clause-kept g c) (subst EachNoIsDone (sym c.from.ensures) c.args.self.answered) (λ n lt. ap (λ h. is_open h n) c.from.ensures ∙ c.requires n lt) (inr nothing) (returns-clause-verdict g c) well

pub returns-clause-cached : goal.returns-clause-cached
returns-clause-cached g c = kept_rule g.P.Naming.start _ _ (returns-clause-kept g c)
