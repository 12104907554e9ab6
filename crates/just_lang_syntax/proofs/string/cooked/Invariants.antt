-- What the pieces to come give follows what was found; each turn takes a character.
use Rattle.std.proofs.Common.{◌≡◌, length, string_bytes}
use Rattle.just_lang_syntax.specs.Meanings.{text_from}
use Rattle.just_lang_syntax.proofs.string.cooked.Given as goal

abbrev pub invariant-pieces : goal.invariant-pieces
invariant-pieces l = text_from (string_bytes l.initial.meant) l.initial.cursor ≡ text_from (string_bytes l.meant) l.cursor

abbrev pub decreases-pieces : goal.decreases-pieces
decreases-pieces l = length l.cursor.rest
