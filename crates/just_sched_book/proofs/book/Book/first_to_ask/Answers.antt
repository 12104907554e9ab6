-- The history that is read is the book's.
use Rattle.std.proofs.Common.{ℕ, ◌≡◌, true, sym, subst}
use Rattle.just_sched_history.specs.declared.plan.Plan.{Plan}
use Rattle.just_sched_history.specs.Rows.{IsNoted}
use Rattle.just_sched_history.specs.Running.{EachNoIsDone}
use Rattle.just_sched_history.specs.State.{has_taken, is_confirmed}
use Rattle.just_sched_book.proofs.Accounts.{took_sure}
use Rattle.just_sched_book.proofs.book.Book.first_to_ask.Goals as goal

pub first_to_ask-requires-clause-noted : goal.first_to_ask-requires-clause-noted
first_to_ask-requires-clause-noted g c =
    let s = c.args.self.now in
    subst (λ h. ∥ IsNoted s.plan.nodes s.plan.invocations h s.tables ∥₁) (sym c.as_slice.ensures.value) s.noted

pub first_to_ask-requires-clause-each_no : goal.first_to_ask-requires-clause-each_no
first_to_ask-requires-clause-each_no g c = subst EachNoIsDone (sym c.as_slice.ensures.value) c.args.self.now.answered

pub first_to_ask-requires-clause-took : goal.first_to_ask-requires-clause-took
first_to_ask-requires-clause-took g c =
    let s = c.args.self.now in
    subst (λ h. (n : ℕ) → has_taken h n ≡ true → is_confirmed s.plan.nodes h n ≡ true) (sym c.as_slice.ensures.value)
    (subst (λ (p : Plan). (n : ℕ) → has_taken s.history.items n ≡ true → is_confirmed p.nodes s.history.items n ≡ true) (sym s.plan_named) (took_sure s.account))
