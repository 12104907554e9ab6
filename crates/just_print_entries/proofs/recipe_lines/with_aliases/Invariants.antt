-- The width so far, with those that are still to come.
use Rattle.std.proofs.Common.{◌≡◌, drop, map}
use Rattle.std.specs.List.{fold}
use Rattle.just_print_entries.specs.Recipes.{wider, alias_width}
use Rattle.just_print_entries.proofs.recipe_lines.with_aliases.Given as goal

abbrev pub invariant-aliases : goal.invariant-aliases
invariant-aliases l =
    fold wider l.widest (map alias_width (map (λ a. a.now) (drop l.alias-index l.aliases))) ≡ fold wider l.so_far (map alias_width (map (λ a. a.now) l.aliases))
