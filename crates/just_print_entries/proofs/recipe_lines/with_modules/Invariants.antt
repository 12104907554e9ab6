-- The width so far, with those that are still to come.
use Rattle.std.proofs.Common.{◌≡◌, drop, map}
use Rattle.std.specs.List.{fold}
use Rattle.just_print_entries.specs.Recipes.{wider, module_width}
use Rattle.just_print_entries.proofs.recipe_lines.with_modules.Given as goal

abbrev pub invariant-modules : goal.invariant-modules
invariant-modules l =
    fold wider l.widest (map module_width (map (λ m. m.now) (drop l.inner-index l.modules))) ≡ fold wider l.so_far (map module_width (map (λ m. m.now) l.modules))
