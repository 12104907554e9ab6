-- A body is done with no entry of its own: its event may come, and the account goes on.
use Rattle.std.proofs.Common.{arith, refl, ◌∙◌, eq-eqb}
use Rattle.just_sched_history.specs.declared.event.Event.TheVariants as event
use Rattle.just_sched_book.proofs.Accounts.{room_for, noted_alone}
use Rattle.just_sched_history.proofs.Asking.{no_kept}
use Rattle.just_sched_history.proofs.Grows.{grows_one}
use Rattle.just_sched_book.proofs.Behind.{open_as, over_now}
use Rattle.just_sched_history.specs.Start.{run_of}
use Rattle.just_sched_book.proofs.Tallies.{silent_end, tally_done}
use Rattle.just_sched_book.proofs.book.Book.end.Goals as goal

pub note-requires-clause-room : goal.note-requires-clause-room
note-requires-clause-room g c =
    let s = c.args.self.now in
    omega (arith, room_for s.account (event.Done c.args.node c.args.outcome) c.requires.may, s.roomy, s.history.ok.0)

pub invariant_of-self-clause-account : goal.invariant_of-self-clause-account
invariant_of-self-clause-account g c = noted_alone c.args.self.now.account _ (event.Done c.args.node c.args.outcome) c.note.ensures.items c.requires.may c.requires.stands refl refl

pub returns-clause-grown : goal.returns-clause-grown
returns-clause-grown g c = grows_one c.args.self.now.history.items _ (event.Done c.args.node c.args.outcome) c.args.node c.note.ensures.items (eq-eqb c.args.node c.args.node refl)

pub returns-clause-opened : goal.returns-clause-opened
returns-clause-opened g c =
    open_as c.args.self.now.history.items _ (event.Done c.args.node c.args.outcome) c.args.node c.note.ensures.items refl refl ∙ c.requires.opened

pub returns-clause-over : goal.returns-clause-over
returns-clause-over g c = over_now c.args.self.now.history.items _ c.args.node c.args.outcome c.note.ensures.items

pub invariant_of-self-clause-tallied : goal.invariant_of-self-clause-tallied
invariant_of-self-clause-tallied g c =
    let s = c.args.self.now in
    tally_done s.history.items _ c.args.node c.args.outcome _ c.note.ensures.items (silent_end (run_of g.P.Naming.start) s.history.items c.args.node c.args.outcome c.requires.stands) s.tallied

pub invariant_of-self-clause-answered : goal.invariant_of-self-clause-answered
invariant_of-self-clause-answered g c = no_kept c.args.self.now.history.items _ (event.Done c.args.node c.args.outcome) c.note.ensures.items (λ k. refl) c.args.self.now.answered
