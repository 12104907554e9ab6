-- What is still to come follows what was found; each turn takes a character.
use Rattle.std.proofs.Common.{◌≡◌, length}
use Rattle.just_lang_syntax.proofs.Loops.{values_to_come}
use Rattle.just_lang_syntax.proofs.recipe.arguments.Given as goal

abbrev pub invariant-arguments : goal.invariant-arguments
invariant-arguments l = values_to_come l.initial.found.items l.initial.cursor ≡ values_to_come l.found.items l.cursor

abbrev pub decreases-arguments : goal.decreases-arguments
decreases-arguments l = length l.cursor.rest
