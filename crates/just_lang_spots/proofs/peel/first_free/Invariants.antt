-- Each node so far that isn't marked has a target that isn't.
use Rattle.std.proofs.Common.{◌≡◌, ℕ, ◌<◌, false, length}
use Rattle.std.specs.List.{Contains}
use Rattle.just_lang_spots.specs.Graph.{targets}
use Rattle.just_lang_spots.specs.Met.{is_marked}
use Rattle.just_lang_spots.proofs.peel.first_free.Given as goal

abbrev pub invariant-loop-node : goal.invariant-loop-node
invariant-loop-node l = (v : ℕ) → v < l.node → is_marked l.marks v ≡ false → (w : ℕ) × Contains (targets l.edges v) w × (w < length l.edges) × (is_marked l.marks w ≡ false)
