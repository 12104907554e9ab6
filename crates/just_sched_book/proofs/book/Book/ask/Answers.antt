-- A node is answered, or is done without an answer: the events may come with what was gained, and the account goes on.
use Rattle.std.proofs.Common.{arith, refl, is_some, ◌∙◌, ap, sym, length, eq-eqb}
use Rattle.just_sched_history.specs.Nodes.{prompt_at}
use Rattle.just_sched_history.specs.Start.{run_of}
use Rattle.just_sched_history.specs.declared.event.Event.TheVariants as event
use Rattle.just_sched_history.specs.declared.event.Outcome.TheVariants as outcome
use Rattle.just_sched_book.proofs.Accounts.{room_for, noted}
use Rattle.just_sched_book.proofs.Answering.{answers_room, answered_account, answered_rests, unasked_rests, answers_grow, answers_ask, answers_done, answers_tally}
use Rattle.just_sched_history.proofs.Asking.{either_true, first_true, no_kept}
use Rattle.just_sched_book.proofs.Behind.{done_now}
use Rattle.just_sched_book.proofs.Gained.{ask_stands, ask_fails}
use Rattle.just_sched_history.proofs.Grows.{grows_one}
use Rattle.just_sched_book.proofs.Tallies.{tally_done, unasked_end}
use Rattle.just_sched_book.proofs.book.Book.ask.Goals as goal

pub prompt-requires-clause-within : goal.prompt-requires-clause-within
prompt-requires-clause-within g c = omega (arith, c.requires.range, ap (λ p. length p.nodes) c.args.self.now.plan_named)

pub prompt-requires-clause-prompted : goal.prompt-requires-clause-prompted
prompt-requires-clause-prompted g c = ap (λ p. is_some (prompt_at p.nodes c.args.node)) c.args.self.now.plan_named ∙ c.requires.to_ask.prompted

pub note_answer-requires-clause-room : goal.note_answer-requires-clause-room
note_answer-requires-clause-room g c =
    let s = c.args.self.now in
    omega (arith, answers_room s.account c.args.node c.requires.to_ask c.requires.calm c.in-Ok.said, s.roomy, s.history.ok.0)

pub note-requires-clause-room : goal.note-requires-clause-room
note-requires-clause-room g c =
    let s = c.args.self.now in
    let at = sym (ap (λ p. prompt_at p.nodes c.args.node) s.plan_named) ∙ c.prompt.ensures in
    let fails = ask_fails (run_of g.P.Naming.start) s.history.items c.args.node c.prompt.result.now c.in-Err.reason c.in-Err.ensures.gains.0 c.requires.to_ask at c.in-Err.ensures.gains.2 in
    omega (arith, room_for s.account (event.Done c.args.node (outcome.Failed c.in-Err.reason)) fails.0, s.roomy, s.history.ok.0)

pub invariant_of-self-clause-account : goal.invariant_of-self-clause-account
invariant_of-self-clause-account g c =
    let s = c.args.self.now in
    let at = sym (ap (λ p. prompt_at p.nodes c.args.node) s.plan_named) ∙ c.prompt.ensures in
    answered_account s.account c.args.node c.requires.to_ask c.requires.calm _ c.in-Ok.ensures.gains.0 _ _ c.in-Ok.said c.note_answer.ensures.items c.in-Ok.ensures.gains.1
    (ask_stands (run_of g.P.Naming.start) s.history.items c.args.node c.prompt.result.now c.in-Ok.said c.in-Ok.ensures.gains.0 at c.in-Ok.ensures.gains.2) c.in-Ok.ensures.world (omega (arith, c.in-Ok.ensures.spare))

pub invariant_of-self-in-Err-clause-account : goal.invariant_of-self-in-Err-clause-account
invariant_of-self-in-Err-clause-account g c =
    let s = c.args.self.now in
    let at = sym (ap (λ p. prompt_at p.nodes c.args.node) s.plan_named) ∙ c.prompt.ensures in
    let fails = ask_fails (run_of g.P.Naming.start) s.history.items c.args.node c.prompt.result.now c.in-Err.reason c.in-Err.ensures.gains.0 c.requires.to_ask at c.in-Err.ensures.gains.2 in
    noted s.account _ c.in-Err.ensures.gains.0 _ _ (event.Done c.args.node (outcome.Failed c.in-Err.reason)) c.note.ensures.items c.in-Err.ensures.gains.1 fails.0 fails.1
    (λ _ _. c.in-Err.ensures.world) (omega (arith, c.in-Err.ensures.spare)) refl

pub invariant_of-self-clause-answered : goal.invariant_of-self-clause-answered
invariant_of-self-clause-answered g c = answers_done c.args.self.now.history.items _ c.args.node c.in-Ok.said c.note_answer.ensures.items c.args.self.now.answered

pub invariant_of-self-in-Err-clause-answered : goal.invariant_of-self-in-Err-clause-answered
invariant_of-self-in-Err-clause-answered g c = no_kept c.args.self.now.history.items _ (event.Done c.args.node (outcome.Failed c.in-Err.reason)) c.note.ensures.items (λ k. refl) c.args.self.now.answered

pub invariant_of-self-clause-tallied : goal.invariant_of-self-clause-tallied
invariant_of-self-clause-tallied g c = answers_tally c.args.self.now.history.items _ c.args.node c.in-Ok.said _ c.note_answer.ensures.items c.args.self.now.tallied

pub invariant_of-self-in-Err-clause-tallied : goal.invariant_of-self-in-Err-clause-tallied
invariant_of-self-in-Err-clause-tallied g c =
    let s = c.args.self.now in
    tally_done s.history.items _ c.args.node (outcome.Failed c.in-Err.reason) _ c.note.ensures.items (unasked_end c.prompt.result.now c.args.node c.in-Err.reason c.in-Err.ensures.gains.0 c.in-Err.ensures.gains.2) s.tallied

pub returns-in-Ok-clause-grown : goal.returns-in-Ok-clause-grown
returns-in-Ok-clause-grown g c = answers_grow c.args.self.now.history.items _ c.args.node c.in-Ok.said c.note_answer.ensures.items

pub returns-in-Err-clause-grown : goal.returns-in-Err-clause-grown
returns-in-Err-clause-grown g c = grows_one c.args.self.now.history.items _ (event.Done c.args.node (outcome.Failed c.in-Err.reason)) c.args.node c.note.ensures.items (eq-eqb c.args.node c.args.node refl)

pub returns-in-Ok-clause-asked : goal.returns-in-Ok-clause-asked
returns-in-Ok-clause-asked g c = first_true _ _ (answers_ask c.args.self.now.history.items _ c.args.node c.in-Ok.said c.note_answer.ensures.items)

pub returns-in-Err-clause-asked : goal.returns-in-Err-clause-asked
returns-in-Err-clause-asked g c = either_true _ _ (done_now c.args.self.now.history.items _ c.args.node (outcome.Failed c.in-Err.reason) c.note.ensures.items)

pub returns-in-Ok-clause-rests : goal.returns-in-Ok-clause-rests
returns-in-Ok-clause-rests g c = answered_rests c.args.self.now.account c.args.node c.requires.to_ask c.requires.calm _ c.in-Ok.said c.note_answer.ensures.items

pub returns-in-Err-clause-rests : goal.returns-in-Err-clause-rests
returns-in-Err-clause-rests g c = unasked_rests c.args.self.now.account c.args.node c.requires.to_ask c.requires.calm _ (outcome.Failed c.in-Err.reason) c.note.ensures.items
