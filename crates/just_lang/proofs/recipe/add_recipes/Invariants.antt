-- The recipes so far, and those that are still to come.
use Rattle.std.proofs.Common.{◌≡◌, ◌++◌, drop}
use Rattle.std.specs.Prelude.{filter_map}
use Rattle.just_lang_spots.specs.Entries.{entries}
use Rattle.just_lang.specs.CycleTables.{standings, standing_in}
use Rattle.just_lang.proofs.recipe.add_recipes.Given as goal

abbrev pub invariant-items : goal.invariant-items
invariant-items l =
    standings l.list.items ++ filter_map (standing_in l.number) (entries (drop l.one-index l.items))
    ≡ standings l.fn.list.items ++ filter_map (standing_in l.number) (entries l.items)
