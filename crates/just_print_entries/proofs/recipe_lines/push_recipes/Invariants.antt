-- What is left follows what was added.
use Rattle.std.proofs.Common.{◌≡◌, ◌++◌, drop, map, string_bytes}
use Rattle.std.specs.List.{flat_map}
use Rattle.just_print_entries.specs.Recipes.{recipe_lines}
use Rattle.just_print_entries.proofs.recipe_lines.push_recipes.Given as goal

abbrev pub invariant-recipes : goal.invariant-recipes
invariant-recipes l =
    string_bytes l.out ++ flat_map (recipe_lines l.margin.indent.now l.margin.columns l.margin.style) (map (λ x. x.now) (drop l.recipe-index l.recipes)) ≡ string_bytes l.initial.out ++ flat_map (recipe_lines l.margin.indent.now l.margin.columns l.margin.style) (map (λ x. x.now) l.recipes)
