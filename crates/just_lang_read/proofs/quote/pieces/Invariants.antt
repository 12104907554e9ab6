-- The pieces to come end where all of them do; each turn takes a character.
use Rattle.std.proofs.Common.{◌≡◌, length}
use Rattle.just_lang_read.specs.Tokens as tokens
use Rattle.just_lang_read.proofs.quote.pieces.Given as goal

abbrev pub invariant-pieces : goal.invariant-pieces
invariant-pieces l = tokens.pieces l.quote l.initial.cursor ≡ tokens.pieces l.quote l.cursor

abbrev pub decreases-pieces : goal.decreases-pieces
decreases-pieces l = length l.cursor.rest
