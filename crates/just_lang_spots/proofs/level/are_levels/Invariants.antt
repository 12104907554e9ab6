-- The nodes so far have a level that is at most those of their targets.
use Rattle.std.proofs.Common.{◌≡◌, ℕ, ◌<◌, true}
use Rattle.just_lang_spots.specs.Levels.{is_at_most_targets}
use Rattle.just_lang_spots.proofs.level.are_levels.Given as goal

abbrev pub invariant-loop-node : goal.invariant-loop-node
invariant-loop-node l = (v : ℕ) → v < l.node → is_at_most_targets l.edges l.levels v ≡ true
