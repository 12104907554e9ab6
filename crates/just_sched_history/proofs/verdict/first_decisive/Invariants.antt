-- No node so far decides.
use Rattle.std.proofs.Common.{◌≡◌, ℕ, ◌<◌, false}
use Rattle.just_sched_history.specs.State.{reason_of}
use Rattle.just_sched_history.specs.Verdict.{decides}
use Rattle.just_sched_history.proofs.verdict.first_decisive.Given as goal

abbrev pub invariant-loop-at : goal.invariant-loop-at
invariant-loop-at l = (m : ℕ) → m < l.at → decides (reason_of l.history m) ≡ false
