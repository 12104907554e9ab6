-- The targets to come pass the test if and only if all do.
use Rattle.std.proofs.Common.{◌≡◌, ◌<◌, drop, length, nat_lt}
use Rattle.std.specs.List.{All, list_all}
use Rattle.just_lang_spots.specs.Graph.{targets}
use Rattle.just_lang_spots.specs.Levels.{level, is_below_targets}
use Rattle.just_lang_spots.proofs.level.is_below_targets.Given as goal

abbrev pub invariant-loop-target : goal.invariant-loop-target
invariant-loop-target l = record {
  is : l.targets ≡ targets l.edges l.node;
  own : l.own ≡ level l.levels l.node;
  within : All (λ w. w < length l.levels) l.targets;
  rest : list_all (λ w. nat_lt (level l.levels l.node) (level l.levels w)) (drop l.target-index l.targets) ≡ is_below_targets l.edges l.levels l.node;
}
