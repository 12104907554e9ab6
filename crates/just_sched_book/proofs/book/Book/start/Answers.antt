-- A command's child is started, or a call of the host broke: the event may come with what was gained, and the account goes on.
use Rattle.std.proofs.Common.{arith, refl, sym, ◌∙◌, ap, subst, eq-eqb}
use Rattle.just_sched_history.specs.Match.{started_entries}
use Rattle.just_sched_history.specs.Moves.{RunsWith}
use Rattle.just_sched_history.specs.Nodes.{command_at}
use Rattle.just_sched_history.specs.Start.{run_of}
use Rattle.just_sched_history.specs.declared.event.Event.TheVariants as event
use Rattle.just_sched_history.specs.declared.event.Outcome.TheVariants as outcome
use Rattle.just_sched_book.proofs.Accounts.{fresh_child, room_for, noted}
use Rattle.just_sched_history.proofs.Asking.{no_kept}
use Rattle.just_sched_book.proofs.Gained.{start_stands, start_fails, started_not_none}
use Rattle.just_sched_history.proofs.Grows.{grows_one}
use Rattle.just_sched_book.proofs.Behind.{open_as, over_now, place_fits, started_runs}
use Rattle.just_sched_history.proofs.Due.{inside}
use Rattle.just_sched_book.proofs.Tallies.{tally_more, tally_done, unstarted_end}
use Rattle.just_sched_book.proofs.book.Book.start.Goals as goal

pub overflow_cast-place : goal.overflow_cast-place
overflow_cast-place g c =
    let s = c.args.self.now in
    omega (arith, place_fits g.P.Naming.start s.history.items c.args.node c.args.place (c.requires.inside, c.requires.begun, c.requires.still, c.requires.due))

pub note-requires-clause-room : goal.note-requires-clause-room
note-requires-clause-room g c =
    let s = c.args.self.now in
    omega (arith, room_for s.account (event.Started c.args.node c.args.place c.number-child.result) ((c.requires.inside, c.requires.begun, c.requires.still, c.requires.due), c.requires.calm, c.number-child.ensures ∙ c.in-Ok.ensures.number ∙ fresh_child s.account), s.roomy, s.history.ok.0)

pub note-requires-in-Err-clause-room : goal.note-requires-in-Err-clause-room
note-requires-in-Err-clause-room g c =
    let s = c.args.self.now in
    let fails = start_fails g.H.Host.child_number (run_of g.P.Naming.start) s.history.items c.args.node c.args.place c.in-Some.command.now c.in-Err.reason c.in-Err.ensures.gains.0 (c.requires.inside, c.requires.begun, c.requires.still, c.requires.due) (sym (c.in-Some.ensures ∙ ap (λ p. command_at p.nodes c.args.node c.args.place) s.plan_named)) c.in-Err.ensures.gains.2 in
    omega (arith, room_for s.account (event.Done c.args.node (outcome.Failed c.in-Err.reason)) fails.0, s.roomy, s.history.ok.0)

pub invariant_of-self-clause-account : goal.invariant_of-self-clause-account
invariant_of-self-clause-account g c =
    let s = c.args.self.now in
    noted s.account _ c.in-Ok.ensures.gains.0 _ _ (event.Started c.args.node c.args.place c.number-child.result) c.note.ensures.items c.in-Ok.ensures.gains.1
    ((c.requires.inside, c.requires.begun, c.requires.still, c.requires.due), c.requires.calm, c.number-child.ensures ∙ c.in-Ok.ensures.number ∙ fresh_child s.account)
    (start_stands (run_of g.P.Naming.start) s.history.items c.args.node c.args.place c.number-child.result c.in-Some.command.now c.in-Ok.ensures.gains.0 (sym (c.in-Some.ensures ∙ ap (λ p. command_at p.nodes c.args.node c.args.place) s.plan_named)) (c.in-Ok.ensures.gains.2 ∙ ap (λ k. started_entries k c.in-Some.command.now) (sym c.number-child.ensures)))
    (λ z none. absurd (started_not_none s.history.items c.args.node c.args.place c.number-child.result z)) (omega (arith, c.in-Ok.ensures.spare)) refl

pub invariant_of-self-in-Err-clause-account : goal.invariant_of-self-in-Err-clause-account
invariant_of-self-in-Err-clause-account g c =
    let s = c.args.self.now in
    let fails = start_fails g.H.Host.child_number (run_of g.P.Naming.start) s.history.items c.args.node c.args.place c.in-Some.command.now c.in-Err.reason c.in-Err.ensures.gains.0 (c.requires.inside, c.requires.begun, c.requires.still, c.requires.due) (sym (c.in-Some.ensures ∙ ap (λ p. command_at p.nodes c.args.node c.args.place) s.plan_named)) c.in-Err.ensures.gains.2 in
    noted s.account _ c.in-Err.ensures.gains.0 _ _ (event.Done c.args.node (outcome.Failed c.in-Err.reason)) c.note-in-Err.ensures.items c.in-Err.ensures.gains.1 fails.0 fails.1
    (λ z none. c.in-Err.ensures.gains.3 none) (omega (arith, c.in-Err.ensures.spare)) refl

pub returns-in-Ok-clause-grown : goal.returns-in-Ok-clause-grown
returns-in-Ok-clause-grown g c =
    grows_one c.args.self.now.history.items _ (event.Started c.args.node c.args.place c.number-child.result) c.args.node c.note.ensures.items (eq-eqb c.args.node c.args.node refl)

pub returns-in-Err-clause-grown : goal.returns-in-Err-clause-grown
returns-in-Err-clause-grown g c = grows_one c.args.self.now.history.items _ (event.Done c.args.node (outcome.Failed c.in-Err.reason)) c.args.node c.note-in-Err.ensures.items (eq-eqb c.args.node c.args.node refl)

pub returns-in-Ok-clause-did : goal.returns-in-Ok-clause-did
returns-in-Ok-clause-did g c =
    let s = c.args.self.now in
    (c.new.ensures.node, subst (λ k. RunsWith c.note.new.history.items c.args.node k) (sym c.new.ensures.child) (started_runs s.account _ c.args.node c.args.place c.number-child.result c.note.ensures.items c.requires.inside c.requires.still))

pub returns-in-Err-clause-did : goal.returns-in-Err-clause-did
returns-in-Err-clause-did g c =
    let s = c.args.self.now in
    let e = event.Done c.args.node (outcome.Failed c.in-Err.reason) in
    (open_as s.history.items _ e c.args.node c.note-in-Err.ensures.items refl refl ∙ (inside s.history.items c.args.node c.requires.inside).is_open, over_now s.history.items _ c.args.node (outcome.Failed c.in-Err.reason) c.note-in-Err.ensures.items)

pub invariant_of-self-clause-tallied : goal.invariant_of-self-clause-tallied
invariant_of-self-clause-tallied g c =
    let s = c.args.self.now in
    tally_more s.history.items _ (event.Started c.args.node c.args.place c.number-child.result) s.tally.total _ c.note.ensures.items s.tallied (omega (arith, c.add.ensures.total))

pub invariant_of-self-in-Err-clause-tallied : goal.invariant_of-self-in-Err-clause-tallied
invariant_of-self-in-Err-clause-tallied g c =
    let s = c.args.self.now in
    tally_done s.history.items _ c.args.node (outcome.Failed c.in-Err.reason) _ c.note-in-Err.ensures.items (unstarted_end g.H.Host.child_number c.in-Some.command.now c.args.node c.in-Err.reason c.in-Err.ensures.gains.0 c.in-Err.ensures.gains.2) s.tallied

pub invariant_of-self-clause-answered : goal.invariant_of-self-clause-answered
invariant_of-self-clause-answered g c = no_kept c.args.self.now.history.items _ (event.Started c.args.node c.args.place c.number-child.result) c.note.ensures.items (λ k. refl) c.args.self.now.answered

pub invariant_of-self-in-Err-clause-answered : goal.invariant_of-self-in-Err-clause-answered
invariant_of-self-in-Err-clause-answered g c = no_kept c.args.self.now.history.items _ (event.Done c.args.node (outcome.Failed c.in-Err.reason)) c.note-in-Err.ensures.items (λ k. refl) c.args.self.now.answered
