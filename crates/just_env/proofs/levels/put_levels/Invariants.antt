-- The levels to come are put behind those so far.
use Rattle.std.proofs.Common.{◌≡◌, drop}
use Rattle.std.specs.List.{flat_map}
use Rattle.just_env.specs.Changes.{put_all, level_changes}
use Rattle.just_env.proofs.levels.put_levels.Given as goal

abbrev pub invariant-levels : goal.invariant-levels
invariant-levels l = put_all l.changes.entries (flat_map (level_changes l.all l.unexports) (drop l.level-index l.levels)) ≡ put_all l.initial.changes.entries (flat_map (level_changes l.all l.unexports) l.levels)
