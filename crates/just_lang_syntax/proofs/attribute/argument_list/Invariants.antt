-- What is still to come follows what was found; each turn takes a character.
use Rattle.std.proofs.Common.{◌≡◌, length}
use Rattle.just_lang_syntax.proofs.AttributeLoops.{arguments_to_come}
use Rattle.just_lang_syntax.proofs.attribute.argument_list.Given as goal

abbrev pub invariant-arguments : goal.invariant-arguments
invariant-arguments l = arguments_to_come l.form l.initial.found.items l.initial.cursor ≡ arguments_to_come l.form l.found.items l.cursor

abbrev pub decreases-arguments : goal.decreases-arguments
decreases-arguments l = length l.cursor.rest
