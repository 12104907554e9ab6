-- The number of events, by the numbers of nodes and commands.
use Rattle.std.proofs.Common.{arith}
use Rattle.just_sched_history.proofs.EventRoom.{slots_are}
use Rattle.just_sched_history.proofs.room.event_count.Goals as goal

pub returns : goal.returns
returns c = omega (arith, slots_are c.args.plan.now.nodes, c.requires, c.in_ok-twice.ensures, c.in_ok-events.ensures, c.len.ensures)
