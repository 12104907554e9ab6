-- The recipes so far have their edges.
use Rattle.std.proofs.Common.{◌≡◌, map, take}
use Rattle.just_lang_names.specs.Names.{layout_of, wins_of}
use Rattle.just_lang.specs.Cycles.{recipes_needed}
use Rattle.just_lang.specs.CycleTables.{standings}
use Rattle.just_lang.proofs.recipe.edges_of.Given as goal

abbrev pub invariant-list : goal.invariant-list
invariant-list l = l.edges.items ≡ map (recipes_needed (wins_of l.names) (layout_of l.names)) (standings (take l.one-index l.list))
