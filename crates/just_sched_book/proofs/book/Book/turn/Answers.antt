-- The history that is read is the book's.
use Rattle.std.proofs.Common.{ℕ, ◌≡◌, true, sym, subst}
use Rattle.just_sched_history.specs.declared.plan.Plan.{Plan}
use Rattle.just_sched_history.specs.Rows.{IsNoted}
use Rattle.just_sched_history.specs.Running.{EachNoIsDone}
use Rattle.just_sched_history.specs.State.{has_taken, is_confirmed}
use Rattle.just_sched_book.proofs.Accounts.{took_sure}
use Rattle.just_sched_book.proofs.book.Book.turn.Goals as goal

pub turn-requires-clause-noted : goal.turn-requires-clause-noted
turn-requires-clause-noted g c =
    let s = c.args.self.now in
    subst (λ h. ∥ IsNoted s.plan.nodes s.plan.invocations h s.tables ∥₁) (sym c.as_slice-history.ensures.value) s.noted

pub invariant_of-self-clause-noted : goal.invariant_of-self-clause-noted
invariant_of-self-clause-noted g c =
    let s = c.args.self.now in
    subst (λ h. ∥ IsNoted s.plan.nodes s.plan.invocations h c.turn.new.self ∥₁) c.as_slice-history.ensures.value c.turn.ensures.noted

pub turn-requires-clause-each_no : goal.turn-requires-clause-each_no
turn-requires-clause-each_no g c = subst EachNoIsDone (sym c.as_slice-history.ensures.value) c.args.self.now.answered

pub turn-requires-clause-took : goal.turn-requires-clause-took
turn-requires-clause-took g c =
    let s = c.args.self.now in
    subst (λ h. (n : ℕ) → has_taken h n ≡ true → is_confirmed s.plan.nodes h n ≡ true) (sym c.as_slice-history.ensures.value)
    (subst (λ (p : Plan). (n : ℕ) → has_taken s.history.items n ≡ true → is_confirmed p.nodes s.history.items n ≡ true) (sym s.plan_named) (took_sure s.account))
