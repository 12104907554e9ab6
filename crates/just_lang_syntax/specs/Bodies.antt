-- Lines of bodies.
use Rattle.std.specs.Prelude.{◌≡◌, ℕ, Bool, true, false, not, ◌&&◌, List, [], ◌∷◌, Some, codes, encode_utf8_all}
use Rattle.just_lang_read.specs.Place.{Place, AreMany, next, first, begins, behind_text}
use Rattle.just_lang_syntax.specs.declared.ast.Expr.{Expr}
use Rattle.just_lang_syntax.specs.declared.ast.Fragment.{Fragment}
use Rattle.just_lang_syntax.specs.declared.ast.Fragment.TheVariants as fragment
use Rattle.just_lang_syntax.specs.declared.ast.Line.{Line}
use Rattle.just_lang_read.specs.Lines.{skip, ends_line, IsToken, IsNewline}
use Rattle.just_lang_syntax.specs.Strings.{concat}
use Rattle.just_lang_syntax.specs.Exprs.{IsExpr}

-- whether an interpolation opens here: at `{{`, but not at `{{{{`, which is text
abbrev pub opens : Place → Bool
opens p = begins (codes "{{") p && not (begins (codes "{{{{") p)

-- whether text stands here
abbrev pub is_text : Place → Bool
is_text p = not (ends_line p) && not (opens p)

-- a letter of a text, and the characters that it means
pub data IsLetter (p q : Place) (means : List ℕ) : Type 0 where
  braces : is_text p ≡ true → begins (codes "{{{{") p ≡ true → q ≡ behind_text (codes "{{{{") p → means ≡ codes "{{" → IsLetter p q means
  itself : (c : ℕ) → is_text p ≡ true → begins (codes "{{{{") p ≡ false → first p ≡ Some c → q ≡ next p → means ≡ c ∷ [] → IsLetter p q means

pub data IsFragment (p q : Place) (x : Fragment) : Type 0 where
  -- a text, as long as it goes
  text : (letters : List (List ℕ)) → is_text p ≡ true → AreMany IsLetter p q letters → is_text q ≡ false → x ≡ fragment.Text (encode_utf8_all (concat letters))
      → IsFragment p q x
  -- an expression in double braces; behind these no blanks are dropped
  value : (m n : Place) (y : Expr) → opens p ≡ true → IsToken (codes "{{") p m → IsExpr m n y → begins (codes "}}") n ≡ true → q ≡ behind_text (codes "}}") n
      → x ≡ fragment.Value y → IsFragment p q x

-- whether a line with this indentation stands here that isn't blank
abbrev pub is_body_line : List ℕ → Place → Bool
is_body_line indentation p = begins indentation p && not (ends_line (skip p))

-- a line of a body with this indentation; it has no blank line's form
pub data IsBodyLine (indentation : List ℕ) (p q : Place) (x : Line) : Type 0 where
  line : (m : Place) (fragments : List Fragment) → is_body_line indentation p ≡ true → AreMany IsFragment (behind_text indentation p) m fragments
      → ends_line m ≡ true → IsNewline m q → x ≡ record { number = p.line; fragments = fragments } → IsBodyLine indentation p q x
