-- A ready node takes a job: its event may come, and the account goes on.
use Rattle.std.proofs.Common.{arith, refl, ap, ◌∙◌, eq-eqb}
use Rattle.just_sched_history.specs.State.{takes, has_taken}
use Rattle.just_sched_history.specs.declared.event.Event.TheVariants as event
use Rattle.just_sched_book.proofs.Accounts.{counted_few, room_for, noted_alone, not_given, not_running}
use Rattle.just_sched_history.proofs.Asking.{no_kept}
use Rattle.just_sched_history.proofs.Grows.{grows_one}
use Rattle.just_sched_book.proofs.Behind.{running_as, took_opens}
use Rattle.just_sched_history.proofs.Tests.{any_now}
use Rattle.just_sched_book.proofs.Tallies.{tally_more}
use Rattle.just_sched_book.proofs.book.Book.take.Goals as goal

pub overflow_add-self : goal.overflow_add-self
overflow_add-self g c = omega (arith, counted_few c.args.self.now.account)

pub note-requires-clause-room : goal.note-requires-clause-room
note-requires-clause-room g c =
    let s = c.args.self.now in
    omega (arith, room_for s.account (event.Took c.args.node) (c.requires.ready, c.requires.calm, c.requires.free, c.requires.apart), s.roomy, s.history.ok.0)

pub invariant_of-self-clause-account : goal.invariant_of-self-clause-account
invariant_of-self-clause-account g c = noted_alone c.args.self.now.account _ (event.Took c.args.node) c.note.ensures.items (c.requires.ready, c.requires.calm, c.requires.free, c.requires.apart) refl refl refl

pub returns-clause-grown : goal.returns-clause-grown
returns-clause-grown g c = grows_one c.args.self.now.history.items _ (event.Took c.args.node) c.args.node c.note.ensures.items (eq-eqb c.args.node c.args.node refl)

pub returns-clause-taken : goal.returns-clause-taken
returns-clause-taken g c =
    ap (λ h. has_taken h c.args.node) c.note.ensures.items ∙ any_now (takes c.args.node) c.args.self.now.history.items (event.Took c.args.node) (eq-eqb c.args.node c.args.node refl)

pub returns-clause-opened : goal.returns-clause-opened
returns-clause-opened g c =
    let s = c.args.self.now in
    took_opens s.history.items _ c.args.node c.note.ensures.items (not_given s.account c.args.node c.requires.ready.not_taken)

pub returns-clause-still : goal.returns-clause-still
returns-clause-still g c =
    let s = c.args.self.now in
    running_as s.history.items _ (event.Took c.args.node) c.args.node c.note.ensures.items refl refl refl ∙ not_running s.account c.args.node c.requires.ready.not_taken

pub invariant_of-self-clause-tallied : goal.invariant_of-self-clause-tallied
invariant_of-self-clause-tallied g c = tally_more c.args.self.now.history.items _ (event.Took c.args.node) _ _ c.note.ensures.items c.args.self.now.tallied refl

pub invariant_of-self-clause-answered : goal.invariant_of-self-clause-answered
invariant_of-self-clause-answered g c = no_kept c.args.self.now.history.items _ (event.Took c.args.node) c.note.ensures.items (λ k. refl) c.args.self.now.answered

pub note-requires-clause-classes : goal.note-requires-clause-classes
note-requires-clause-classes g c = not_given c.args.self.now.account c.args.node c.requires.ready.not_taken
