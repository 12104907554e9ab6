-- No byte so far is a slash.
use Rattle.std.proofs.Common.{◌≢◌, ◌<◌, ℕ, slice_index}
use Rattle.just_path.proofs.scan.first_slash.Given as goal

abbrev pub invariant-loop-i : goal.invariant-loop-i
invariant-loop-i l = (k : ℕ) → k < l.i → slice_index l.text k ≢ 47
