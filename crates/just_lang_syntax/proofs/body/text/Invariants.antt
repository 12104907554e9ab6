-- What is still to come follows what was found; each turn takes a character.
use Rattle.std.proofs.Common.{◌≡◌, length, string_bytes}
use Rattle.just_lang_syntax.proofs.TextLoop.{text_to_come}
use Rattle.just_lang_syntax.proofs.body.text.Given as goal

abbrev pub invariant-letters : goal.invariant-letters
invariant-letters l = text_to_come (string_bytes l.initial.text) l.initial.cursor ≡ text_to_come (string_bytes l.text) l.cursor

abbrev pub decreases-letters : goal.decreases-letters
decreases-letters l = length l.cursor.rest
