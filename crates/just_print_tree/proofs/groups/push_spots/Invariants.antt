-- The places so far, and those that are still to come.
use Rattle.std.proofs.Common.{◌≡◌, ◌++◌, drop}
use Rattle.just_print_tree.specs.Groups.{recipe_spots}
use Rattle.just_print_tree.specs.Kept.{tolds}
use Rattle.just_print_tree.proofs.groups.push_spots.Given as goal

abbrev pub invariant-recipes : goal.invariant-recipes
invariant-recipes l = l.spots.items ++ recipe_spots (tolds (drop l.one-index l.recipes)) ≡ l.initial.spots.items ++ recipe_spots (tolds l.recipes)
