-- No number from the first on is a member so far.
use Rattle.std.proofs.Common.{◌-◌, ◌≡◌, ◌<◌, ◌≤◌, ℕ, false}
use Rattle.just_sched_history.specs.Members.{is_member}
use Rattle.just_sched_history.proofs.number_set.NumberSet.place_from.Given as goal

abbrev pub invariant-loop-at : goal.invariant-loop-at
invariant-loop-at l = record {
  above : l.from ≤ l.at;
  none : (n : ℕ) → l.from ≤ n → n < l.at → is_member l.self.flags.items n ≡ false;
}

abbrev pub decreases-loop-at : goal.decreases-loop-at
decreases-loop-at l = l.self.size - l.at
