-- Quotes, and the pieces of the texts between them.
use Rattle.std.specs.Prelude.{◌≡◌, ℕ, ◌+◌, ◌*◌, ◌-◌, ◌≤◌, Bool, true, false, not, ◌&&◌, ◌==◌, nat_le, if◌then◌else◌, List, [], ◌∷◌, length, Option, Some, None}
use Rattle.std.specs.Char.{IsScalar}
use Rattle.just_lang_read.specs.Place.{Place, IsCharacter, next, past, run, first, starts, sees, begins, is_end}
use Rattle.just_lang_read.specs.declared.quote.Quote.{Quote}
use Rattle.just_lang_read.specs.declared.quote.Quote.TheVariants.{Single, Double, SingleBlock, DoubleBlock}
use Rattle.just_lang_read.specs.Characters.{is_hex, is_digit, is_quote}

-- the characters before and behind a string
abbrev pub mark : Quote → List ℕ
mark Single = 39 ∷ []
mark Double = 34 ∷ []
mark SingleBlock = 39 ∷ 39 ∷ 39 ∷ []
mark DoubleBlock = 34 ∷ 34 ∷ 34 ∷ []

-- whether a string's escapes mean something: between `"`
abbrev pub is_cooked : Quote → Bool
is_cooked Single = false
is_cooked Double = true
is_cooked SingleBlock = false
is_cooked DoubleBlock = true

-- whether a string's lines lose their indentation: between three quotes
abbrev pub is_block : Quote → Bool
is_block Single = false
is_block Double = false
is_block SingleBlock = true
is_block DoubleBlock = true

-- the quote that stands here: three of a kind, else one
abbrev pub quote_at : Place → Option Quote
quote_at p =
    if begins (mark SingleBlock) p then Some SingleBlock
    else (if begins (mark Single) p then Some Single
    else (if begins (mark DoubleBlock) p then Some DoubleBlock else (if begins (mark Double) p then Some Double else None)))

-- behind the `x` in front of a string, if there is one
abbrev pub behind_x : Place → Place
behind_x p = if sees 120 p then next p else p

-- whether a string begins here: a quote, or an `x` directly before one
abbrev pub begins_string : Place → Bool
begins_string p = starts is_quote (behind_x p)

-- the escapes of one letter: `\n`, `\r`, `\t`, `\"`, `\\`
abbrev pub letter_meant : ℕ → Option ℕ
letter_meant c =
    if c == 110 then Some 10
    else (if c == 114 then Some 13 else (if c == 116 then Some 9 else (if c == 34 then Some 34 else (if c == 92 then Some 92 else None))))

abbrev pub digit_value : ℕ → ℕ
digit_value c = if is_digit c then c - 48 else (if nat_le 97 c then c - 87 else c - 55)

-- the number behind a number whose digits go on so
abbrev pub number_from : ℕ → List ℕ → ℕ
number_from n [] = n
number_from n (c ∷ rest) = number_from (n * 16 + digit_value c) rest

-- what stands behind a backslash, and the characters that it gives
pub data IsEscape (p q : Place) (gives : List ℕ) : Type 0 where
  letter : (c d : ℕ) → first p ≡ Some c → letter_meant c ≡ Some d → q ≡ next p → gives ≡ d ∷ [] → IsEscape p q gives
  -- `u` and one to six hexadecimal digits in braces, the number of a character
  unicode : (m n : Place) (c : ℕ) → IsCharacter 117 p m → IsCharacter 123 m n → starts is_hex n ≡ true → length (run is_hex n.rest) ≤ 6
      → c ≡ number_from 0 (run is_hex n.rest) → IsScalar c → IsCharacter 125 (past is_hex n) q → gives ≡ c ∷ [] → IsEscape p q gives
  -- the end of a line gives nothing
  feed : IsCharacter 10 p q → gives ≡ [] → IsEscape p q gives
  return_feed : (m : Place) → IsCharacter 13 p m → IsCharacter 10 m q → gives ≡ [] → IsEscape p q gives

-- a piece of a string: a character, or an escape where these mean something
pub data IsPiece (cooked : Bool) (p q : Place) (gives : List ℕ) : Type 0 where
  itself : (c : ℕ) → first p ≡ Some c → (cooked && c == 92) ≡ false → q ≡ next p → gives ≡ c ∷ [] → IsPiece cooked p q gives
  escaped : (m : Place) → cooked ≡ true → IsCharacter 92 p m → IsEscape m q gives → IsPiece cooked p q gives

-- whether the string goes on here: neither the text nor the string ends
abbrev pub goes_on : Quote → Place → Bool
goes_on quote p = not (is_end p) && not (begins (mark quote) p)

-- a piece where the string goes on
abbrev pub IsPieceOf : Quote → Place → Place → List ℕ → Type 0
IsPieceOf quote p q gives = (goes_on quote p ≡ true) × IsPiece (is_cooked quote) p q gives
