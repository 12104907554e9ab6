-- The flags so far are down.
use Rattle.std.proofs.Common.{◌≡◌, ◌<◌, ◌≤◌, ℕ, false}
use Rattle.just_sched_history.specs.Members.{is_member}
use Rattle.just_sched_history.proofs.number_set.are_down.Given as goal

abbrev pub invariant-loop-at : goal.invariant-loop-at
invariant-loop-at l = (n : ℕ) → l.from ≤ n → n < l.at → is_member l.flags n ≡ false
