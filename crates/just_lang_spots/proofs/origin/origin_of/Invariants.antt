-- None of the targets so far has an origin.
use Rattle.std.proofs.Common.{◌≡◌, ◌<◌, map, drop, get_or, length, None}
use Rattle.std.specs.List.{All}
use Rattle.just_lang_spots.specs.Graph.{targets}
use Rattle.just_lang_spots.specs.Origins.{first_there}
use Rattle.just_lang_spots.proofs.origin.origin_of.Given as goal

abbrev pub invariant-loop-target : goal.invariant-loop-target
invariant-loop-target l = record {
  is : l.targets ≡ targets l.edges l.node;
  within : All (λ w. w < length l.origins) l.targets;
  none : first_there (map (λ w. get_or l.origins w None) (drop l.target-index l.targets)) ≡ first_there (map (λ w. get_or l.origins w None) (targets l.edges l.node));
}
