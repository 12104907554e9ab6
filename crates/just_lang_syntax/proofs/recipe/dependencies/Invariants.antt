-- What is still to come follows what was found; each turn takes a character.
use Rattle.std.proofs.Common.{◌≡◌, length}
use Rattle.just_lang_syntax.proofs.Loops.{dependencies_to_come}
use Rattle.just_lang_syntax.proofs.recipe.dependencies.Given as goal

abbrev pub invariant-dependencies : goal.invariant-dependencies
invariant-dependencies l = dependencies_to_come l.initial.found.items l.initial.cursor ≡ dependencies_to_come l.found.items l.cursor

abbrev pub decreases-dependencies : goal.decreases-dependencies
decreases-dependencies l = length l.cursor.rest
