-- No node so far is to be asked.
use Rattle.std.proofs.Common.{◌-◌, ℕ, ◌<◌}
use Rattle.just_sched_history.specs.State.{IsToAsk}
use Rattle.just_sched_history.proofs.choice.first_asked_by.Given as goal

abbrev pub invariant-loop-next : goal.invariant-loop-next
invariant-loop-next l = (n : ℕ) → n < l.at → IsToAsk l.plan.nodes l.plan.invocations l.history n → ⊥

abbrev pub decreases-loop-next : goal.decreases-loop-next
decreases-loop-next l = l.prompted.size - l.at
