-- The recipes so far have their places.
use Rattle.std.proofs.Common.{◌≡◌, map, take}
use Rattle.just_lang.specs.Cycles.{recipe_spot}
use Rattle.just_lang.specs.CycleTables.{standings}
use Rattle.just_lang.proofs.recipe.spots_of.Given as goal

abbrev pub invariant-list : goal.invariant-list
invariant-list l = l.spots.items ≡ map recipe_spot (standings (take l.one-index l.list))
