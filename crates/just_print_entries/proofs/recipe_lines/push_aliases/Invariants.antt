-- What is left follows what was added.
use Rattle.std.proofs.Common.{◌≡◌, ◌++◌, drop, map, string_bytes}
use Rattle.std.specs.List.{flat_map}
use Rattle.just_print_entries.specs.Recipes.{alias_lines}
use Rattle.just_print_entries.proofs.recipe_lines.push_aliases.Given as goal

abbrev pub invariant-aliases : goal.invariant-aliases
invariant-aliases l =
    string_bytes l.out ++ flat_map (alias_lines l.margin.indent.now l.margin.columns l.margin.style) (map (λ x. x.now) (drop l.alias-index l.aliases)) ≡ string_bytes l.initial.out ++ flat_map (alias_lines l.margin.indent.now l.margin.columns l.margin.style) (map (λ x. x.now) l.aliases)
