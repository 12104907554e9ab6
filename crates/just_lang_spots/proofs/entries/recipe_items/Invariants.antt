-- The recipes so far, and those that are still to come.
use Rattle.std.proofs.Common.{◌≡◌, ◌++◌, drop}
use Rattle.std.specs.Prelude.{filter}
use Rattle.just_lang_spots.specs.Entries.{entries}
use Rattle.just_lang_spots.specs.Items.{is_recipe_here}
use Rattle.just_lang_spots.proofs.entries.recipe_items.Given as goal

abbrev pub invariant-items : goal.invariant-items
invariant-items l =
    entries l.kept.items ++ filter is_recipe_here (entries (drop l.one-index l.items)) ≡ filter is_recipe_here (entries l.items)
