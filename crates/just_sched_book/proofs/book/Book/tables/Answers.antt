-- The tables that a book keeps tell what its plan and its history say.
use Rattle.std.proofs.Common.{ℕ, ◌≡◌, true, sym, subst}
use Rattle.just_sched_history.specs.declared.plan.Plan.{Plan}
use Rattle.just_sched_history.specs.State.{has_taken, is_confirmed}
use Rattle.just_sched_book.specs.Tabled.{TablesTell}
use Rattle.just_sched_book.proofs.Accounts.{took_sure}
use Rattle.just_sched_book.proofs.Tabled.{tells}
use Rattle.just_sched_book.proofs.book.Book.tables.Goals as goal

pub returns : goal.returns
returns g c =
    let s = c.args.self.now in
    subst (λ (p : Plan). ∥ TablesTell p.nodes p.invocations s.history.items s.tables ∥₁) s.plan_named
    (tells s.plan.nodes s.plan.invocations s.history.items s.tables s.plan.well s.noted s.sized s.answered
    (subst (λ (p : Plan). (n : ℕ) → has_taken s.history.items n ≡ true → is_confirmed p.nodes s.history.items n ≡ true) (sym s.plan_named) (took_sure s.account)))
