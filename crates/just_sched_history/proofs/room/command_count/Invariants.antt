-- The commands of the nodes so far are counted.
use Rattle.std.proofs.Common.{◌≡◌, length, take, sum_by}
use Rattle.just_exec_work.specs.Steps.{commands_of}
use Rattle.just_sched_history.proofs.room.command_count.Given as goal

abbrev pub invariant-loop-node : goal.invariant-loop-node
invariant-loop-node l = l.count ≡ sum_by (λ x. length (commands_of x.work)) (take l.node-index l.node-items)
