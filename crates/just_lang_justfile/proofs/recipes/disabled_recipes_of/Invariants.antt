-- The recipes so far that can't be run, and those that are still to come.
use Rattle.std.proofs.Common.{◌≡◌, ◌++◌, drop}
use Rattle.std.specs.Prelude.{filter_map}
use Rattle.std.specs.List.{enumerate_from}
use Rattle.just_lang_spots.specs.Entries.{entries}
use Rattle.just_lang_justfile.specs.Recipes.{disabled_at, disabled_recipes_of}
use Rattle.just_lang_justfile.proofs.recipes.disabled_recipes_of.Given as goal

abbrev pub invariant-standing : goal.invariant-standing
invariant-standing g l =
    l.all.items ++ filter_map (disabled_at (g.L.Linker.links l.links) l.number) (enumerate_from l.at (entries (drop l.at l.standing)))
    ≡ disabled_recipes_of (g.L.Linker.links l.links) l.number (entries l.standing)
