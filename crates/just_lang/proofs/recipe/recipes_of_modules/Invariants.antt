-- The recipes of the modules so far, and how many there were before each.
use Rattle.just_lang_names.specs.Names.{layout_of, wins_of}
use Rattle.just_lang.proofs.Standings.{AreStandingBelow}
use Rattle.just_lang.proofs.recipe.recipes_of_modules.Given as goal

abbrev pub invariant-modules : goal.invariant-modules
invariant-modules l = AreStandingBelow (wins_of l.names) (layout_of l.names) l.number l.list.items l.before.items
