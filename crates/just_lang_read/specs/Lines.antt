-- Tokens, words, and the ends of lines, as places.
-- p is where something begins and q is behind it and the blanks that follow it.
use Rattle.std.specs.Prelude.{◌≡◌, ℕ, Bool, true, false, not, ◌&&◌, ◌||◌, ◌==◌, if◌then◌else◌, List, [], ◌∷◌}
use Rattle.just_lang_read.specs.Place.{Place, IsCharacter, past, starts, sees, begins, behind_text, is_end}
use Rattle.just_lang_read.specs.Characters.{is_blank, in_name}

-- behind the blanks
abbrev pub skip : Place → Place
skip p = past is_blank p

-- whether this word stands here, whole
abbrev pub is_word : List ℕ → Place → Bool
is_word word p = begins word p && not (starts in_name (behind_text word p))

-- behind the word that stands here
abbrev pub behind_word : Place → Place
behind_word p = skip (past in_name p)

-- the token of this text
abbrev pub IsToken : List ℕ → Place → Place → Type 0
IsToken text p q = (begins text p ≡ true) × (q ≡ skip (behind_text text p))

-- this word
abbrev pub IsWord : List ℕ → Place → Place → Type 0
IsWord word p q = (is_word word p ≡ true) × (q ≡ skip (behind_text word p))

-- `\r\n`
abbrev pub crlf : List ℕ
crlf = 13 ∷ 10 ∷ []

-- whether a line or the text ends here
abbrev pub ends_line : Place → Bool
ends_line p = is_end p || (sees 10 p || begins crlf p)

-- the end of a line: `\n`, `\r\n`, or nothing where the text ends
pub data IsNewline (p q : Place) : Type 0 where
  last : is_end p ≡ true → q ≡ p → IsNewline p q
  feed : IsCharacter 10 p q → IsNewline p q
  return_feed : begins crlf p ≡ true → q ≡ behind_text crlf p → IsNewline p q

-- whether a line with nothing but blanks begins here; behind the end of the text there is none
abbrev pub is_blank_line : Place → Bool
is_blank_line p = not (is_end p) && ends_line (skip p)

-- a line with nothing but blanks
abbrev pub IsBlankLine : Place → Place → Type 0
IsBlankLine p q = (is_end p ≡ false) × IsNewline (skip p) q

-- a text without the carriage returns at its end
abbrev pub put : ℕ → List ℕ → List ℕ
put c [] = if c == 13 then [] else c ∷ []
put c (d ∷ rest) = c ∷ d ∷ rest

abbrev pub without_returns : List ℕ → List ℕ
without_returns [] = []
without_returns (c ∷ rest) = put c (without_returns rest)

-- whether that stands here
abbrev pub is_rest : Place → Bool
is_rest p = sees 35 p || ends_line p
