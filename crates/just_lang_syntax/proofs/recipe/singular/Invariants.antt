-- What is still to come follows what was found; each turn takes a character.
use Rattle.std.proofs.Common.{◌≡◌, length}
use Rattle.just_lang_syntax.proofs.Loops.{parameters_to_come}
use Rattle.just_lang_syntax.proofs.recipe.singular.Given as goal

abbrev pub invariant-parameters : goal.invariant-parameters
invariant-parameters l = parameters_to_come l.initial.found.items l.initial.cursor ≡ parameters_to_come l.found.items l.cursor

abbrev pub decreases-parameters : goal.decreases-parameters
decreases-parameters l = length l.cursor.rest
