-- What is left follows what was added.
use Rattle.std.proofs.Common.{◌≡◌, ◌++◌, drop, map, string_bytes}
use Rattle.std.specs.List.{flat_map}
use Rattle.just_print_entries.specs.Recipes.{module_lines}
use Rattle.just_print_entries.proofs.recipe_lines.push_modules.Given as goal

abbrev pub invariant-modules : goal.invariant-modules
invariant-modules l =
    string_bytes l.out ++ flat_map (module_lines l.margin.indent.now l.margin.columns l.margin.style) (map (λ x. x.now) (drop l.inner-index l.modules)) ≡ string_bytes l.initial.out ++ flat_map (module_lines l.margin.indent.now l.margin.columns l.margin.style) (map (λ x. x.now) l.modules)
