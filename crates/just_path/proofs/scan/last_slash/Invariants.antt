-- No byte from here on is a slash.
use Rattle.std.proofs.Common.{◌≢◌, ◌<◌, ◌≤◌, ℕ, length, slice_index}
use Rattle.just_path.proofs.scan.last_slash.Given as goal

abbrev pub invariant-loop-i : goal.invariant-loop-i
invariant-loop-i l = (l.i ≤ length l.text) × ((k : ℕ) → l.i ≤ k → k < length l.text → slice_index l.text k ≢ 47)
