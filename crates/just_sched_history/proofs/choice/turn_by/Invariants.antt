-- Of the nodes so far none is to be asked, and each ready one waits; who doesn't stand in the set isn't due.
use Rattle.std.proofs.Common.{◌≡◌, ◌-◌, ℕ, false, length}
use Rattle.just_sched_history.specs.State.{IsDueNext}
use Rattle.just_sched_history.specs.Tables.{flag}
use Rattle.just_sched_history.specs.Turns.{OnlyWaitBefore}
use Rattle.just_sched_history.proofs.choice.turn_by.Given as goal

abbrev pub invariant-loop-next : goal.invariant-loop-next
invariant-loop-next l = record {
  size : l.due.size ≡ length l.plan.nodes;
  out : (m : ℕ) → flag l.due.flags.items m ≡ false → IsDueNext l.plan.nodes l.plan.invocations l.history m → ⊥;
  before : OnlyWaitBefore l.plan.nodes l.plan.invocations l.history l.at l.waits;
}

abbrev pub decreases-loop-next : goal.decreases-loop-next
decreases-loop-next l = l.due.size - l.at
