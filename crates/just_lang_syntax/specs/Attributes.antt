-- Attributes: lines of them in brackets, and what stands behind the name of each.
use Rattle.std.specs.Prelude.{◌≡◌, ℕ, Bool, true, false, not, is_some, ◌&&◌, ◌||◌, ◌==◌, List, [], ◌∷◌, ◌++◌, Option, Some, None, codes, bytes_eq}
use Rattle.std.specs.List.{list_any}
use Rattle.just_lang_read.specs.Place.{Place, AreMany, next, starts, begins}
use Rattle.just_lang_syntax.specs.declared.ast.Name.{Name}
use Rattle.just_lang_syntax.specs.declared.ast.StringLiteral.{StringLiteral}
use Rattle.just_lang_syntax.specs.declared.ast.Expr.{Expr, out-Expr}
use Rattle.just_lang_syntax.specs.declared.ast.Expr.TheOpen.{Expr-F}
use Rattle.just_lang_syntax.specs.declared.ast.Expr.TheVariants as e
use Rattle.just_lang_syntax.specs.declared.ast.Argument.{Argument}
use Rattle.just_lang_syntax.specs.declared.ast.Attribute.{Attribute}
use Rattle.just_lang_syntax.specs.declared.form.Form.{Form}
use Rattle.just_lang_syntax.specs.declared.form.Form.TheVariants.{Bare, MaybeText, Text, Texts, Arg, Cache, Open}
use Rattle.just_lang_syntax.specs.declared.form.KeyForm.TheVariants.{Number}
use Rattle.just_lang_read.specs.Characters.{begins_name}
use Rattle.just_lang_read.specs.Decimal.{decimal}
use Rattle.just_lang_read.specs.Lines.{skip, behind_word, IsToken}
use Rattle.just_lang_syntax.specs.Places.{IsName, IsRest}
use Rattle.just_lang_syntax.specs.Strings.{IsString, IsTextOf}
use Rattle.just_lang_syntax.specs.Exprs.{IsExpr}
use Rattle.just_lang_syntax.specs.Forms.{form_of, may_be_bare, has_colon, key_form, may_stand_alone, has_text, is_cache_key}

-- ---- arguments

abbrev pub argument_at : Option Name → Place → Expr → Argument
argument_at key p x = record { key = key; line = p.line; column = p.column; value = x }

-- an expression as the argument with that key
abbrev pub IsPlain : Option Name → Place → Place → Argument → Type 0
IsPlain key p q x = (y : Expr) × IsExpr p q y × (x ≡ argument_at key p y)

-- a key and its `=`
pub data IsKey (p q : Place) (key : Name) : Type 0 where
  key_sign : (m : Place) → IsName p m key → IsToken (codes "=") m q → IsKey p q key

-- whether these stand here
abbrev pub is_keyed : Place → Bool
is_keyed p = starts begins_name p && begins (codes "=") (behind_word p)

abbrev pub is_named_in : List ℕ → Expr-F Expr → Bool
is_named_in key (Expr-F.Variable n) = bytes_eq n.text key
is_named_in key _ = false

-- whether an expression is that name
abbrev pub is_named : List ℕ → Expr → Bool
is_named key x = is_named_in key (out-Expr x)

abbrev pub is_key_or : List ℕ → Option Name → Expr → Bool
is_key_or key None value = is_named key value
is_key_or key (Some n) value = bytes_eq n.text key

-- whether one of the arguments has this key, with a text or alone
abbrev pub has_key : List Argument → List ℕ → Bool
has_key arguments key = list_any (λ (a : Argument). is_key_or key a.key a.value) arguments

-- whether `cache` may have this key behind these arguments: `extra` once, the others as often as wanted
abbrev pub may_cache : List Argument → List ℕ → Bool
may_cache earlier key = is_cache_key key && not (bytes_eq key (codes "extra") && has_key earlier key)

-- whether `arg` may have this key behind these: `pattern` as often as wanted, the others once
abbrev pub may_have : List Argument → List ℕ → Bool
may_have earlier key = bytes_eq key (codes "pattern") || not (has_key earlier key)

-- whether a text is a decimal number of 64 bits without a zero in front
abbrev pub is_decimal : List ℕ → Bool
is_decimal text = is_some (decimal text)

-- a key of `arg` behind these: alone, with a text, or with a number
pub data IsOption (earlier : List Argument) (p q : Place) (x : Argument) : Type 0 where
  alone : (k : Name) → IsName p q k → may_have earlier k.text ≡ true → may_stand_alone (key_form k.text) ≡ true → begins (codes "=") q ≡ false
      → x ≡ argument_at None p (e.Variable k) → IsOption earlier p q x
  valued : (m : Place) (k : Name) → IsKey p m k → may_have earlier k.text ≡ true → has_text (key_form k.text) ≡ true → IsPlain (Some k) m q x → IsOption earlier p q x
  number : (m : Place) (k : Name) (s : StringLiteral) (text : List ℕ) → IsKey p m k → may_have earlier k.text ≡ true → key_form k.text ≡ Number
      → IsString m q s → IsTextOf s text → is_decimal text ≡ true → x ≡ argument_at (Some k) m (e.Literal s) → IsOption earlier p q x

abbrev pub is_first : List Argument → Bool
is_first [] = true
is_first (x ∷ earlier) = false

abbrev pub behind_first : List Argument → List Argument
behind_first [] = []
behind_first (x ∷ earlier) = earlier

-- whether an attribute of the form has an expression without a key behind these arguments
abbrev pub takes_text : Form → List Argument → Bool
takes_text Bare earlier = false
takes_text MaybeText earlier = is_first earlier
takes_text Text earlier = is_first earlier
takes_text Texts earlier = true
takes_text Arg earlier = is_first earlier
takes_text Cache earlier = false
takes_text Open earlier = false

-- the argument of an attribute of the form behind these
pub data IsArgument (form : Form) (earlier : List Argument) (p q : Place) (x : Argument) : Type 0 where
  text : takes_text form earlier ≡ true → IsPlain None p q x → IsArgument form earlier p q x
  option : form ≡ Arg → is_first earlier ≡ false → IsOption (behind_first earlier) p q x → IsArgument form earlier p q x
  cached : (m : Place) (k : Name) → form ≡ Cache → IsKey p m k → may_cache earlier k.text ≡ true → IsPlain (Some k) m q x → IsArgument form earlier p q x
  any : form ≡ Open → is_keyed p ≡ false → IsPlain None p q x → IsArgument form earlier p q x
  any_key : (m : Place) (k : Name) → form ≡ Open → IsKey p m k → IsPlain (Some k) m q x → IsArgument form earlier p q x

-- whether a comma and a further argument stand here; a comma may also stand before the closing parenthesis
abbrev pub goes_on : Place → Bool
goes_on p = begins (codes ",") p && not (begins (codes ")") (skip (next p)))

-- the arguments behind these, each behind a comma
abbrev pub AreFurther : Form → List Argument → Place → Place → List Argument → Type 0
AreFurther form earlier p q [] = (goes_on p ≡ false) × (q ≡ p)
AreFurther form earlier p q (x ∷ xs) =
    (m : Place) × (n : Place) × (goes_on p ≡ true) × IsToken (codes ",") p m × IsArgument form earlier m n x × AreFurther form (earlier ++ x ∷ []) n q xs

-- a comma, or nothing where none stands
pub data IsTrailing (p q : Place) : Type 0 where
  comma : IsToken (codes ",") p q → IsTrailing p q
  nothing : begins (codes ",") p ≡ false → q ≡ p → IsTrailing p q

-- arguments in parentheses, at least one
pub data AreArguments (form : Form) (p q : Place) (xs : List Argument) : Type 0 where
  in_parentheses : (m n o r : Place) (first : Argument) (others : List Argument) → IsToken (codes "(") p m → IsArgument form [] m n first
      → AreFurther form (first ∷ []) n o others → IsTrailing o r → IsToken (codes ")") r q → xs ≡ first ∷ others → AreArguments form p q xs

-- ---- attributes

abbrev pub attribute_of : Name → Bool → List Argument → Attribute
attribute_of name colon arguments = record { name = name; colon = colon; arguments = arguments; comment = None }

pub data IsAttribute (p q : Place) (x : Attribute) : Type 0 where
  bare : (n : Name) → IsName p q n → may_be_bare (form_of n.text) ≡ true → begins (codes ":") q ≡ false → begins (codes "(") q ≡ false
      → x ≡ attribute_of n false [] → IsAttribute p q x
  behind_colon : (m o : Place) (n : Name) (s : StringLiteral) → IsName p m n → has_colon (form_of n.text) ≡ true → IsToken (codes ":") m o → IsString o q s
      → x ≡ attribute_of n true (argument_at None o (e.Literal s) ∷ []) → IsAttribute p q x
  grouped : (m : Place) (n : Name) (xs : List Argument) → IsName p m n → AreArguments (form_of n.text) m q xs → x ≡ attribute_of n false xs → IsAttribute p q x

-- a comma and an attribute
abbrev pub IsFurtherAttribute : Place → Place → Attribute → Type 0
IsFurtherAttribute p q x = (m : Place) × IsToken (codes ",") p m × IsAttribute m q x

-- attributes, of which the last one has this comment
abbrev pub with_comment : Option (List ℕ) → List Attribute → List Attribute
with_comment comment [] = []
with_comment comment (x ∷ []) = record x { comment = comment } ∷ []
with_comment comment (x ∷ y ∷ ys) = x ∷ with_comment comment (y ∷ ys)

-- a line of attributes in brackets; the blanks in front of the next line belong to it
pub data IsAttributeLine (p q : Place) (xs : List Attribute) : Type 0 where
  in_brackets : (m n o r s : Place) (first : Attribute) (others : List Attribute) (comment : Option (List ℕ)) → IsToken (codes "[") p m → IsAttribute m n first
      → AreMany IsFurtherAttribute n o others → IsToken (codes "]") o r → IsRest r s comment → q ≡ skip s → xs ≡ with_comment comment (first ∷ others)
      → IsAttributeLine p q xs

abbrev pub concat : List (List Attribute) → List Attribute
concat [] = []
concat (line ∷ lines) = line ++ concat lines

-- the attributes before an item
pub data AreAttributes (p q : Place) (xs : List Attribute) : Type 0 where
  line_by_line : (lines : List (List Attribute)) → AreMany IsAttributeLine p q lines → begins (codes "[") q ≡ false → xs ≡ concat lines → AreAttributes p q xs
