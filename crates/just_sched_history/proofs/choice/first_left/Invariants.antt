-- Each node so far took a job or is done.
use Rattle.std.proofs.Common.{◌≡◌, ℕ, ◌<◌, ◌||◌, true}
use Rattle.just_sched_history.specs.State.{has_taken, is_done}
use Rattle.just_sched_history.proofs.choice.first_left.Given as goal

abbrev pub invariant-loop-at : goal.invariant-loop-at
invariant-loop-at l = (m : ℕ) → m < l.at → (has_taken l.history m || is_done l.history m) ≡ true
