-- The targets so far are marked.
use Rattle.std.proofs.Common.{◌≡◌, ◌<◌, true, take, length}
use Rattle.std.specs.List.{All}
use Rattle.just_lang_spots.specs.Graph.{targets}
use Rattle.just_lang_spots.specs.Met.{is_marked}
use Rattle.just_lang_spots.proofs.peel.left_target.Given as goal

abbrev pub invariant-loop-target : goal.invariant-loop-target
invariant-loop-target l = record {
  is : l.targets ≡ targets l.edges l.node;
  within : All (λ w. w < length l.marks) l.targets;
  marked : All (λ w. is_marked l.marks w ≡ true) (take l.target-index l.targets);
}
