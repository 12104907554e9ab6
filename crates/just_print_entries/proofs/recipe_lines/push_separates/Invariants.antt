-- What is left follows what was added.
use Rattle.std.proofs.Common.{◌≡◌, ◌++◌, drop, map, string_bytes}
use Rattle.std.specs.List.{flat_map}
use Rattle.just_print_entries.specs.Recipes.{separate_lines}
use Rattle.just_print_entries.proofs.recipe_lines.push_separates.Given as goal

abbrev pub invariant-names : goal.invariant-names
invariant-names l =
    string_bytes l.out ++ flat_map (separate_lines l.margin.indent.now l.margin.columns l.margin.style l.recipe) (map (λ x. x.now) (drop l.name-index l.names)) ≡ string_bytes l.initial.out ++ flat_map (separate_lines l.margin.indent.now l.margin.columns l.margin.style l.recipe) (map (λ x. x.now) l.names)
