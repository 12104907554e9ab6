-- What is left follows what was added.
use Rattle.std.proofs.Common.{◌≡◌, ◌++◌, drop, map}
use Rattle.just_print_lists.specs.Summaries.{path_within}
use Rattle.just_print_lists.proofs.summary.push_paths.Given as goal

abbrev pub invariant-recipes : goal.invariant-recipes
invariant-recipes l =
    l.paths.items ++ map (λ r. path_within l.outer r.name) (map (λ r. r.now) (drop l.recipe-index l.recipes)) ≡ l.initial.paths.items ++ map (λ r. path_within l.outer r.name) (map (λ r. r.now) l.recipes)
