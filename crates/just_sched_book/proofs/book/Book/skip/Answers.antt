-- A body is skipped: its event may come, and the account goes on.
use Rattle.std.proofs.Common.{arith, refl, ◌∙◌, eq-eqb}
use Rattle.just_sched_history.specs.declared.event.Event.TheVariants as event
use Rattle.just_sched_book.proofs.Accounts.{room_for, noted_alone}
use Rattle.just_sched_history.proofs.Asking.{no_kept}
use Rattle.just_sched_book.proofs.Behind.{open_as}
use Rattle.just_sched_history.proofs.CachedMoves.{skip_over}
use Rattle.just_sched_history.proofs.Due.{inside}
use Rattle.just_sched_history.proofs.Grows.{grows_one}
use Rattle.just_sched_book.proofs.Tallies.{tally_more}
use Rattle.just_sched_book.proofs.book.Book.skip.Goals as goal

pub note-requires-clause-room : goal.note-requires-clause-room
note-requires-clause-room g c =
    let s = c.args.self.now in
    omega (arith, room_for s.account (event.Skipped c.args.node) (c.requires.inside, c.requires.full), s.roomy, s.history.ok.0)

pub invariant_of-self-clause-account : goal.invariant_of-self-clause-account
invariant_of-self-clause-account g c = noted_alone c.args.self.now.account _ (event.Skipped c.args.node) c.note.ensures.items (c.requires.inside, c.requires.full) refl refl refl

pub returns-clause-grown : goal.returns-clause-grown
returns-clause-grown g c = grows_one c.args.self.now.history.items _ (event.Skipped c.args.node) c.args.node c.note.ensures.items (eq-eqb c.args.node c.args.node refl)

pub returns-clause-opened : goal.returns-clause-opened
returns-clause-opened g c =
    let s = c.args.self.now in
    open_as s.history.items _ (event.Skipped c.args.node) c.args.node c.note.ensures.items refl refl ∙ (inside s.history.items c.args.node c.requires.inside).is_open

pub returns-clause-over : goal.returns-clause-over
returns-clause-over g c = skip_over c.args.self.now.history.items _ c.args.node c.note.ensures.items

pub invariant_of-self-clause-tallied : goal.invariant_of-self-clause-tallied
invariant_of-self-clause-tallied g c = tally_more c.args.self.now.history.items _ (event.Skipped c.args.node) _ _ c.note.ensures.items c.args.self.now.tallied refl

pub invariant_of-self-clause-answered : goal.invariant_of-self-clause-answered
invariant_of-self-clause-answered g c = no_kept c.args.self.now.history.items _ (event.Skipped c.args.node) c.note.ensures.items (λ k. refl) c.args.self.now.answered
