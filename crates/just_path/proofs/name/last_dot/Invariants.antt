-- No byte from here on is a dot.
use Rattle.std.proofs.Common.{◌≢◌, ◌<◌, ◌≤◌, ℕ, length, slice_index}
use Rattle.just_path.proofs.name.last_dot.Given as goal

abbrev pub invariant-loop-i : goal.invariant-loop-i
invariant-loop-i l = ((k : ℕ) → l.i ≤ k → k < length l.name → slice_index l.name k ≢ 46)
