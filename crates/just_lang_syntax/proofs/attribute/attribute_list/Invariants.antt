-- What is still to come follows what was found; each turn takes a character.
use Rattle.std.proofs.Common.{◌≡◌, length}
use Rattle.just_lang_syntax.proofs.AttributeLoops.{list_to_come}
use Rattle.just_lang_syntax.proofs.attribute.attribute_list.Given as goal

abbrev pub invariant-attributes : goal.invariant-attributes
invariant-attributes l = list_to_come l.initial.found.items l.initial.cursor ≡ list_to_come l.found.items l.cursor

abbrev pub decreases-attributes : goal.decreases-attributes
decreases-attributes l = length l.cursor.rest
