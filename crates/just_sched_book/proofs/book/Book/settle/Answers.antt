-- A child is settled, or waiting failed: the event may come with the entry, and the account goes on.
use Rattle.std.proofs.Common.{Some, arith, refl, sym, ◌∙◌, ap, eq-eqb}
use Rattle.just_host_record.specs.declared.entry.Call.TheVariants as call
use Rattle.just_sched_history.specs.declared.event.Event.TheVariants as event
use Rattle.just_sched_history.specs.declared.event.Outcome.TheVariants as outcome
use Rattle.just_sched_history.specs.declared.event.Reason.TheVariants as reason
use Rattle.just_sched_book.proofs.Accounts.{inside_running, room_for, settle_room_for, spared_of, noted}
use Rattle.just_sched_history.proofs.Asking.{no_kept}
use Rattle.just_sched_history.proofs.Grows.{grows_one}
use Rattle.just_sched_book.proofs.Settling.{settled_ok, settled_err}
use Rattle.just_sched_book.proofs.Behind.{done_now, done_rests, ended_rests, running_started}
use Rattle.just_sched_history.specs.Start.{run_of}
use Rattle.just_sched_book.proofs.Tallies.{tally_more}
use Rattle.just_sched_book.proofs.book.Book.settle.Goals as goal

pub settle-requires : goal.settle-requires
settle-requires g c =
    let s = c.args.self.now in
    omega (arith, settle_room_for s.account c.args.node c.requires.runs.runs, spared_of s.account)

pub note-requires-clause-room : goal.note-requires-clause-room
note-requires-clause-room g c =
    let s = c.args.self.now in
    omega (arith, room_for s.account (event.Ended c.args.node c.place-place.result c.args.child c.in-Ok.status) ((inside_running s.account c.args.node c.requires.runs.runs, c.requires.runs.runs), c.requires.runs.started ∙ ap (λ i. Some (i, c.args.child)) (sym (c.place-place.ensures _ _ c.requires.runs.started))), s.roomy, s.history.ok.0)

pub note-requires-in-Err-clause-room : goal.note-requires-in-Err-clause-room
note-requires-in-Err-clause-room g c =
    let s = c.args.self.now in
    omega (arith, room_for s.account (event.Done c.args.node (outcome.Failed (reason.Fault call.Wait))) (inside_running s.account c.args.node c.requires.runs.runs, c.requires.runs.runs), s.roomy, s.history.ok.0)

pub invariant_of-self-clause-account : goal.invariant_of-self-clause-account
invariant_of-self-clause-account g c =
    let s = c.args.self.now in
    noted s.account _ _ _ _ (event.Ended c.args.node c.place-place.result c.args.child c.in-Ok.status) c.note.ensures.items c.in-Ok.ensures.entries
    ((inside_running s.account c.args.node c.requires.runs.runs, c.requires.runs.runs), c.requires.runs.started ∙ ap (λ i. Some (i, c.args.child)) (sym (c.place-place.ensures _ _ c.requires.runs.started)))
    (settled_ok c.args.child (g.H.Host.done_number c.args.ended) (g.H.Host.waited c.args.ended) c.in-Ok.status c.in-Ok.ensures.answer)
    (λ z none. absurd (running_started s.history.items (event.Ended c.args.node c.place-place.result c.args.child c.in-Ok.status) c.args.node c.requires.runs.runs z)) (omega (arith, c.in-Ok.ensures.spare)) refl

pub invariant_of-self-in-Err-clause-account : goal.invariant_of-self-in-Err-clause-account
invariant_of-self-in-Err-clause-account g c =
    let s = c.args.self.now in
    let e = event.Done c.args.node (outcome.Failed (reason.Fault call.Wait)) in
    noted s.account _ _ _ _ e c.note-in-Err.ensures.items c.in-Err.ensures.entries (inside_running s.account c.args.node c.requires.runs.runs, c.requires.runs.runs)
    (settled_err (run_of g.P.Naming.start) s.history.items c.args.node c.requires.runs.place c.args.child (g.H.Host.done_number c.args.ended) (g.H.Host.waited c.args.ended) c.in-Err.field-0 c.requires.runs.started c.requires.own c.in-Err.ensures.answer)
    (λ z none. absurd (running_started s.history.items e c.args.node c.requires.runs.runs z)) (omega (arith, c.in-Err.ensures.spare)) refl

pub returns-in-Ok-clause-grown : goal.returns-in-Ok-clause-grown
returns-in-Ok-clause-grown g c =
    grows_one c.args.self.now.history.items _ (event.Ended c.args.node c.place-place.result c.args.child c.in-Ok.status) c.args.node c.note.ensures.items (eq-eqb c.args.node c.args.node refl)

pub returns-in-Err-clause-grown : goal.returns-in-Err-clause-grown
returns-in-Err-clause-grown g c =
    grows_one c.args.self.now.history.items _ (event.Done c.args.node (outcome.Failed (reason.Fault call.Wait))) c.args.node c.note-in-Err.ensures.items (eq-eqb c.args.node c.args.node refl)

pub returns-in-Ok-clause-still : goal.returns-in-Ok-clause-still
returns-in-Ok-clause-still g c = ended_rests c.args.self.now.account _ c.args.node c.place-place.result c.args.child c.in-Ok.status c.note.ensures.items

pub returns-in-Err-clause-still : goal.returns-in-Err-clause-still
returns-in-Err-clause-still g c =
    done_rests c.note-in-Err.new.history.items c.args.node (done_now c.args.self.now.history.items _ c.args.node (outcome.Failed (reason.Fault call.Wait)) c.note-in-Err.ensures.items)

pub invariant_of-self-clause-tallied : goal.invariant_of-self-clause-tallied
invariant_of-self-clause-tallied g c =
    let s = c.args.self.now in
    tally_more s.history.items _ (event.Ended c.args.node c.place-place.result c.args.child c.in-Ok.status) s.tally.total _ c.note.ensures.items s.tallied (omega (arith, c.sub.ensures.total))

pub invariant_of-self-in-Err-clause-tallied : goal.invariant_of-self-in-Err-clause-tallied
invariant_of-self-in-Err-clause-tallied g c =
    let s = c.args.self.now in
    tally_more s.history.items _ (event.Done c.args.node (outcome.Failed (reason.Fault call.Wait))) s.tally.total _ c.note-in-Err.ensures.items s.tallied (omega (arith, c.sub.ensures.total))

pub invariant_of-self-clause-answered : goal.invariant_of-self-clause-answered
invariant_of-self-clause-answered g c = no_kept c.args.self.now.history.items _ (event.Ended c.args.node c.place-place.result c.args.child c.in-Ok.status) c.note.ensures.items (λ k. refl) c.args.self.now.answered

pub invariant_of-self-in-Err-clause-answered : goal.invariant_of-self-in-Err-clause-answered
invariant_of-self-in-Err-clause-answered g c = no_kept c.args.self.now.history.items _ (event.Done c.args.node (outcome.Failed (reason.Fault call.Wait))) c.note-in-Err.ensures.items (λ k. refl) c.args.self.now.answered
