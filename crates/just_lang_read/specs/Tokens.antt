-- What the code reads from a place on, step by step: tokens, words, the ends of lines, and the pieces of strings.
use Rattle.std.specs.Prelude.{ℕ, Bool, true, false, ◌&&◌, ◌==◌, nat_le, if◌then◌else◌, List, [], ◌∷◌, length, Option, Some, None, Ok, Err}
use lib.Utf8.{scalar}
use Rattle.just_lang_read.specs.Place.{next, past, run, first, starts, sees, begins, behind_text, is_end}
use Rattle.just_lang_read.specs.Reader.{Reader, ◌>>=◌, ◌>>◌, pure, refuse, expect, many}
use Rattle.just_lang_read.specs.declared.error.ReadError.TheVariants.{Syntax}
use Rattle.just_lang_read.specs.declared.quote.Quote.{Quote}
use Rattle.just_lang_read.specs.Characters.{is_hex}
use Rattle.just_lang_read.specs.Lines.{skip, is_word, crlf}
use Rattle.just_lang_read.specs.Quotes.{is_cooked, letter_meant, number_from, goes_on}

unfoldable pub token : List ℕ → Reader (Unit {0})
token text = λ p. if begins text p then Ok (tt, skip (behind_text text p)) else Err Syntax

unfoldable pub word : List ℕ → Reader (Unit {0})
word text = λ p. if is_word text p then Ok (tt, skip (behind_text text p)) else Err Syntax

unfoldable pub newline : Reader (Unit {0})
newline = λ p.
    if is_end p then Ok (tt, p)
    else (if sees 10 p then Ok (tt, next p) else (if begins crlf p then Ok (tt, behind_text crlf p) else Err Syntax))

unfoldable pub blank_line : Reader (Unit {0})
blank_line = λ p. newline (skip p)

-- the token of this text, or nothing
unfoldable pub maybe : List ℕ → Reader Bool
maybe text = λ p. if begins text p then (token text >> pure true) p else Ok (false, p)

-- one to six digits that are the number of a character
abbrev pub is_number : List ℕ → Bool
is_number digits = nat_le (length digits) 6 && scalar (number_from 0 digits)

-- the digits of an escape, behind the brace
unfoldable pub number : Reader ℕ
number = λ p. if starts is_hex p && is_number (run is_hex p.rest) then Ok (number_from 0 (run is_hex p.rest), past is_hex p) else Err Syntax

-- behind the `u`
unfoldable pub unicode : Reader (List ℕ)
unicode = do
  expect 123
  c ← number
  expect 125
  pure (c ∷ [])

abbrev pub letter_of : Option ℕ → Reader (List ℕ)
letter_of None = refuse
letter_of (Some d) = λ p. Ok (d ∷ [], next p)

abbrev pub escape_of : Option ℕ → Reader (List ℕ)
escape_of None = refuse
escape_of (Some c) = λ p.
    if c == 117 then unicode (next p)
    else (if c == 10 then Ok ([], next p) else (if c == 13 then (expect 10 >> pure []) (next p) else letter_of (letter_meant c) p))

-- behind the backslash
unfoldable pub escape : Reader (List ℕ)
escape = λ p. escape_of (first p) p

abbrev pub piece_of : Bool → Option ℕ → Reader (List ℕ)
piece_of cooked None = refuse
piece_of cooked (Some c) = λ p. if cooked && c == 92 then escape (next p) else Ok (c ∷ [], next p)

unfoldable pub piece : Bool → Reader (List ℕ)
piece cooked = λ p. piece_of cooked (first p) p

abbrev pub many_pieces : Quote → Reader (List (List ℕ))
many_pieces quote = many (goes_on quote) (piece (is_cooked quote))

-- up to the closing quote
unfoldable pub pieces : Quote → Reader (Unit {0})
pieces quote = many_pieces quote >> pure tt
