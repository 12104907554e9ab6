-- The grammar: which parts, values, pairs and lines stand between two places of a text.
-- In this file p is where something begins, q is directly behind it, and m and n are places between the two.
use Rattle.std.specs.Prelude.{◌≡◌, ℕ, Bool, true, false, not, ◌&&◌, ◌||◌, ◌==◌, List, [], ◌∷◌, map, Option, Some, None, codes, encode_utf8_all}
use Rattle.just_lang_read.specs.Place.{Place, AreMany, IsCharacter, next, past, run, first, starts, sees, is_end}
use Rattle.just_dotenv.specs.declared.part.Part.{Part}
use Rattle.just_dotenv.specs.declared.part.Part.TheVariants.{Letter, Name, Braced, Gap, Sign}
use Rattle.just_dotenv.specs.Characters.{is_blank, begins_name, in_word, in_name, in_line, in_single_quotes, is_bare, is_plain, escape, dollar_sign, backslash, open_brace, close_brace, single_quote, double_quote, number_sign, equals_sign, line_feed, carriage_return}

-- behind the blanks
abbrev pub behind_blanks : Place → Place
behind_blanks p = past is_blank p

-- whether a name and a `}` directly behind it stand here
abbrev pub is_braced : Place → Bool
is_braced p = starts in_word p && sees close_brace (past in_word p)

-- ---- one part of a value, double quoted or bare

pub data IsPart (quoted : Bool) (p q : Place) (x : Part) : Type 0 where
  -- a character that stands for itself
  itself : (c : ℕ) → first p ≡ Some c → is_plain quoted c ≡ true → q ≡ next p → x ≡ Letter c → IsPart quoted p q x
  -- a backslash, in double quotes alone, and one of the four characters that it makes something of
  escaped : (m : Place) (c d : ℕ) → quoted ≡ true → IsCharacter backslash p m → first m ≡ Some c → escape c ≡ Some d → q ≡ next m → x ≡ Letter d → IsPart quoted p q x
  -- `$NAME`
  named : (m : Place) → IsCharacter dollar_sign p m → starts in_word m ≡ true → q ≡ past in_word m → x ≡ Name (encode_utf8_all (run in_word m.rest)) → IsPart quoted p q x
  -- `${NAME}`
  braced : (m n : Place) → IsCharacter dollar_sign p m → IsCharacter open_brace m n → starts in_word n ≡ true → IsCharacter close_brace (past in_word n) q
      → x ≡ Braced (encode_utf8_all (run in_word n.rest)) → IsPart quoted p q x
  -- a `$` before any other `{`
  gap : IsCharacter dollar_sign p q → starts in_word q ≡ false → sees open_brace q ≡ true → is_braced (next q) ≡ false → x ≡ Gap → IsPart quoted p q x
  -- a `$` before anything else
  sign : IsCharacter dollar_sign p q → starts in_word q ≡ false → sees open_brace q ≡ false → x ≡ Sign → IsPart quoted p q x

-- whether the part ends in a `}`
abbrev pub is_close : Part → Bool
is_close (Letter c) = c == close_brace
is_close (Name name) = false
is_close (Braced name) = true
is_close Gap = false
is_close Sign = false

-- whether the part is a `$` before a `{` that begins no `${NAME}`
abbrev pub is_gap : Part → Bool
is_gap (Letter c) = false
is_gap (Name name) = false
is_gap (Braced name) = false
is_gap Gap = true
is_gap Sign = false

-- whether one of the parts ends in a `}`
abbrev pub has_close : List Part → Bool
has_close [] = false
has_close (x ∷ xs) = is_close x || has_close xs

-- behind each `$` before a `{` that begins no `${NAME}`, a `}` stands in the value
abbrev pub is_closed : List Part → Bool
is_closed [] = true
is_closed (x ∷ xs) = (not (is_gap x) || has_close xs) && is_closed xs

-- ---- a value, from the place behind the `=`

-- a bare value follows the blanks: behind a blank it doesn't begin with `#`
abbrev pub has_bare_value : Place → Bool
has_bare_value p = starts is_bare (behind_blanks p) && not (starts is_blank p && sees number_sign (behind_blanks p))

pub data IsValue (p q : Place) (v : List Part) : Type 0 where
  -- nothing: neither a quote nor a bare value follows the blanks
  none : has_bare_value p ≡ false → sees single_quote (behind_blanks p) ≡ false → sees double_quote (behind_blanks p) ≡ false → q ≡ p → v ≡ [] → IsValue p q v
  -- what stands between single quotes, each character for itself
  single : (m : Place) → IsCharacter single_quote (behind_blanks p) m → IsCharacter single_quote (past in_single_quotes m) q → v ≡ map Letter (run in_single_quotes m.rest) → IsValue p q v
  -- the parts between double quotes
  double : (m n : Place) → IsCharacter double_quote (behind_blanks p) m → AreMany (IsPart true) m n v → IsCharacter double_quote n q → is_closed v ≡ true → IsValue p q v
  -- the parts up to the first character that no bare value holds
  bare : has_bare_value p ≡ true → AreMany (IsPart false) (behind_blanks p) q v → starts is_bare q ≡ false → is_closed v ≡ true → IsValue p q v

-- ---- a pair

-- a pair as it is written
pub record Entry : Type 0 where
  pub name : List ℕ
  pub value : List Part

-- the longest run of characters of a name
abbrev pub word : Place → List ℕ
word p = encode_utf8_all (run in_name p.rest)

-- a name, blanks, `=` and what follows it
pub data IsAssignment (p q : Place) (e : Entry) : Type 0 where
  assigned : (m : Place) → starts begins_name p ≡ true → e.name ≡ word p → IsCharacter equals_sign (behind_blanks (past in_name p)) m → IsValue m q e.value → IsAssignment p q e

pub data IsPair (p q : Place) (e : Entry) : Type 0 where
  -- the name comes first
  plain : IsAssignment p q e → IsPair p q e
  -- `export` and at least one blank come first
  exported : word p ≡ codes "export" → starts is_blank (past in_name p) ≡ true → IsAssignment (behind_blanks (past in_name p)) q e → IsPair p q e

-- ---- a line

-- `\n`, `\r\n`, or nothing where the text ends
pub data IsNewline (p q : Place) : Type 0 where
  feed : IsCharacter line_feed p q → IsNewline p q
  return_feed : (m : Place) → IsCharacter carriage_return p m → IsCharacter line_feed m q → IsNewline p q
  last : is_end p ≡ true → q ≡ p → IsNewline p q

-- blanks, a comment if there is one, and the newline; a comment begins at the line's start or behind a blank
pub data IsRest (at_start : Bool) (p q : Place) : Type 0 where
  -- directly behind the blanks the line ends
  no_comment : IsNewline (behind_blanks p) q → IsRest at_start p q
  -- or a comment begins there
  comment : (at_start || starts is_blank p) ≡ true → sees number_sign (behind_blanks p) ≡ true → IsNewline (past in_line (behind_blanks p)) q → IsRest at_start p q

pub data IsLine (p q : Place) (x : Option Entry) : Type 0 where
  -- blanks and a comment at most; the end of the text begins no further line
  without : is_end p ≡ false → IsRest true p q → x ≡ None → IsLine p q x
  -- blanks, a pair, and the rest of the line
  with : (m : Place) (e : Entry) → IsPair (behind_blanks p) m e → IsRest false m q → x ≡ Some e → IsLine p q x
