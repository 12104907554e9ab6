-- There is room for each of an answer's events.
use Rattle.std.proofs.Common.{length, ap, arith, length-append, [], ◌∷◌}
use Rattle.just_sched_history.specs.declared.event.Event.TheVariants as event
use Rattle.just_sched_history.proofs.Asking.{events_some, events_two, events_yes, events_no}
use Rattle.just_sched_history.proofs.noting.note_answer.Goals as goal

pub note-requires-clause-room : goal.note-requires-clause-room
note-requires-clause-room c = omega (arith, c.requires.room, events_some c.args.node c.args.said)

pub note-requires-2-clause-room : goal.note-requires-2-clause-room
note-requires-2-clause-room c =
    omega (arith, c.requires.room, events_two c.args.node c.args.said c.if-said.false, ap length c.note.ensures.items, length-append c.args.history.now.items (event.Asked c.args.node c.args.said ∷ []), c.note.ensures.capacity, c.note.new.history.ok.0, c.args.history.now.ok.0)

pub returns-then-said-clause-items : goal.returns-then-said-clause-items
returns-then-said-clause-items c = events_yes c.args.history.now.items _ c.args.node c.args.said c.if-said.true c.note.ensures.items

pub returns-clause-items : goal.returns-clause-items
returns-clause-items c = events_no c.args.history.now.items c.note.new.history.items _ c.args.node c.args.said c.if-said.false c.note.ensures.items c.note-2.ensures.items
