-- Names, paths, comments, and what may stand behind an item.
-- In all files of the grammar p is where something begins and q is behind it and the blanks that follow it; m, n and o are
-- places between the two.
use Rattle.std.specs.Prelude.{◌≡◌, ℕ, true, false, List, ◌∷◌, Option, Some, None, codes, encode_utf8_all}
use Rattle.just_lang_read.specs.Place.{Place, AreMany, past, run, starts, sees, begins}
use Rattle.just_lang_syntax.specs.declared.ast.Name.{Name}
use Rattle.just_lang_read.specs.Characters.{begins_name, in_name, in_line}
use Rattle.just_lang_read.specs.Lines.{behind_word, IsToken, IsNewline, without_returns}

-- ---- names

abbrev pub name_at : Place → Name
name_at p = record { text = encode_utf8_all (run in_name p.rest); line = p.line; column = p.column }

-- a letter or `_`, and the longest run of letters, digits, `_` and `-`
abbrev pub IsName : Place → Place → Name → Type 0
IsName p q x = (starts begins_name p ≡ true) × (q ≡ behind_word p) × (x ≡ name_at p)

-- `::` and a name
abbrev pub IsFurtherName : Place → Place → Name → Type 0
IsFurtherName p q x = (m : Place) × IsToken (codes "::") p m × IsName m q x

-- names with `::` between them, as long as one follows
pub data IsPath (p q : Place) (xs : List Name) : Type 0 where
  names : (m : Place) (first : Name) (others : List Name) → IsName p m first → AreMany IsFurtherName m q others → begins (codes "::") q ≡ false
      → xs ≡ first ∷ others → IsPath p q xs

-- ---- the ends of items

-- a comment: `#` and all that follows it in its line; carriage returns at the end belong to the line's end
abbrev pub IsComment : Place → Place → List ℕ → Type 0
IsComment p q text = (sees 35 p ≡ true) × (text ≡ encode_utf8_all (without_returns (run in_line p.rest))) × IsNewline (past in_line p) q

-- what may stand behind an item on its line: nothing, or a comment
pub data IsRest (p q : Place) (comment : Option (List ℕ)) : Type 0 where
  ended : IsNewline p q → comment ≡ None → IsRest p q comment
  commented : (text : List ℕ) → IsComment p q text → comment ≡ Some text → IsRest p q comment
