-- The width so far, with those that are still to come.
use Rattle.std.proofs.Common.{◌≡◌, drop, map}
use Rattle.std.specs.List.{flat_map, fold}
use Rattle.just_print_entries.specs.Recipes.{wider, recipe_widths}
use Rattle.just_print_entries.proofs.recipe_lines.with_recipes.Given as goal

abbrev pub invariant-recipes : goal.invariant-recipes
invariant-recipes l =
    fold wider l.widest (flat_map (recipe_widths l.style) (map (λ r. r.now) (drop l.recipe-index l.recipes))) ≡ fold wider l.so_far (flat_map (recipe_widths l.style) (map (λ r. r.now) l.recipes))
