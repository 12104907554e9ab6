-- What is still to come follows what was found; each turn takes a character.
use Rattle.std.proofs.Common.{◌≡◌, length}
use Rattle.just_lang_syntax.proofs.AttributeLoops.{strings_to_come}
use Rattle.just_lang_syntax.proofs.item.string_list.Given as goal

abbrev pub invariant-strings : goal.invariant-strings
invariant-strings l = strings_to_come l.initial.found.items l.initial.cursor ≡ strings_to_come l.found.items l.cursor

abbrev pub decreases-strings : goal.decreases-strings
decreases-strings l = length l.cursor.rest
