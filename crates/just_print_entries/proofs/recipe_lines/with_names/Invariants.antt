-- The width so far, with those that are still to come.
use Rattle.std.proofs.Common.{◌≡◌, drop, map}
use Rattle.std.specs.List.{fold}
use Rattle.just_print_entries.specs.Entries.{width}
use Rattle.just_print_entries.specs.Recipes.{wider, signature}
use Rattle.just_print_entries.proofs.recipe_lines.with_names.Given as goal

abbrev pub invariant-names : goal.invariant-names
invariant-names l =
    fold wider l.widest (map (λ name. width (signature name l.parameters)) (map (λ name. name.now) (drop l.name-index l.names))) ≡ fold wider l.so_far (map (λ name. width (signature name l.parameters)) (map (λ name. name.now) l.names))
