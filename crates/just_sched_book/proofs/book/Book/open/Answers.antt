-- A book of no events yet has a right account, and room for all.
use Rattle.std.proofs.Common.{◌≡◌, ◌+◌, arith, refl, ap, sym, ◌∙◌, subst, length}
use Rattle.just_host_record.proofs.Moments.{moment_by}
use Rattle.just_sched_history.specs.Legal.{all_starts}
use Rattle.just_sched_history.specs.Room.{slots, total_commands, settle_count}
use Rattle.just_sched_history.specs.Rows.{IsNoted}
use Rattle.just_sched_history.specs.Running.{EachNoIsDone}
use Rattle.just_sched_history.specs.declared.plan.Plan.{Plan}
use Rattle.just_sched_book.proofs.Accounts.{account_none}
use Rattle.just_sched_book.proofs.book.Book.open.Goals as goal

pub invariant_of-book-clause-account : goal.invariant_of-book-clause-account
invariant_of-book-clause-account g c =
    account_none g.P.Naming.start c.in-Ok.field-0.history.items _ _ c.in-Ok.ensures.empty (moment_by _ _ c.in-Ok.ensures.entries c.in-Ok.ensures.world ∙ c.requires.told)
    (omega (arith, c.in-Ok.ensures.spare, ap (λ p. total_commands p.nodes) c.args.plan.named))

pub invariant_of-book-clause-roomy : goal.invariant_of-book-clause-roomy
invariant_of-book-clause-roomy g c = omega (arith, c.in-Ok.ensures.room, ap (λ p. slots p.nodes) c.args.plan.named)

pub invariant_of-book-clause-sized : goal.invariant_of-book-clause-sized
invariant_of-book-clause-sized g c = c.in-Ok.ensures.size ∙ ap (λ p. length p.nodes) (sym c.take_apart-plan.ensures.plan)

pub invariant_of-book-clause-noted : goal.invariant_of-book-clause-noted
invariant_of-book-clause-noted g c =
    subst (λ (p : Plan). ∥ IsNoted p.nodes p.invocations c.in-Ok.field-0.history.items c.in-Ok.field-0.tables ∥₁) (sym c.take_apart-plan.ensures.plan)
    (subst (λ h. ∥ IsNoted c.args.plan.plan.nodes c.args.plan.plan.invocations h c.in-Ok.field-0.tables ∥₁) (sym c.in-Ok.ensures.empty) c.in-Ok.ensures.noted)

pub invariant_of-book-clause-tallied : goal.invariant_of-book-clause-tallied
invariant_of-book-clause-tallied g c =
    subst (λ h. settle_count h + c.open-tally.result.0.total ≡ all_starts h) (sym c.in-Ok.ensures.empty) (omega (arith, c.open-tally.ensures.total))

pub invariant_of-book-clause-answered : goal.invariant_of-book-clause-answered
invariant_of-book-clause-answered g c = subst EachNoIsDone (sym c.in-Ok.ensures.empty) (λ n a. absurd (cc a))

pub returns-in-Ok-clause-told : goal.returns-in-Ok-clause-told
returns-in-Ok-clause-told g c = moment_by _ _ c.in-Ok.ensures.entries c.in-Ok.ensures.world

pub returns-in-Err-clause-back : goal.returns-in-Err-clause-back
returns-in-Err-clause-back g c = (moment_by _ _ c.in-Err.ensures.entries c.in-Err.ensures.world, refl)
