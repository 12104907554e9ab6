-- What is still to come follows what was found; each turn takes a character.
use Rattle.std.proofs.Common.{◌≡◌, length}
use Rattle.just_lang_syntax.proofs.AttributeLoops.{lines_to_come}
use Rattle.just_lang_syntax.proofs.attribute.attributes.Given as goal

abbrev pub invariant-lines : goal.invariant-lines
invariant-lines l = lines_to_come l.initial.found.items l.initial.cursor ≡ lines_to_come l.found.items l.cursor

abbrev pub decreases-lines : goal.decreases-lines
decreases-lines l = length l.cursor.rest
