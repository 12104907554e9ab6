-- Attributes and strings in lists take characters.
use Rattle.std.proofs.Common.{◌≡◌, ◌<◌, ◌≤◌, List, [], ◌∷◌, ◌++◌, length, Option, Some, None, Ok, codes, arith}
use Rattle.just_lang_read.specs.Place.{Place}
use Rattle.just_lang_read.proofs.Laws.{bind_ok, past_le}
use Rattle.just_lang_syntax.specs.declared.ast.Name.{Name}
use Rattle.just_lang_syntax.specs.declared.ast.StringLiteral.{StringLiteral}
use Rattle.just_lang_syntax.specs.declared.ast.Argument.{Argument}
use Rattle.just_lang_syntax.specs.declared.ast.Attribute.{Attribute}
use Rattle.just_lang_syntax.specs.declared.form.Form.{Form}
use Rattle.just_lang_read.specs.Characters.{is_blank}
use Rattle.just_lang_syntax.specs.Exprs.{IsInner}
use Rattle.just_lang_syntax.specs.Forms.{form_of}
use Rattle.just_lang_syntax.specs.Attributes.{behind_first, IsPlain, IsKey, IsOption, IsArgument, AreFurther, AreArguments, IsAttribute, IsFurtherAttribute, IsAttributeLine, AreAttributes}
use Rattle.just_lang_syntax.specs.Attributes.IsKey.{key_sign}
use Rattle.just_lang_syntax.specs.Attributes.IsOption.{alone, valued, number}
use Rattle.just_lang_syntax.specs.Attributes.IsArgument.{text, option, cached, any, any_key}
use Rattle.just_lang_syntax.specs.Attributes.AreArguments.{in_parentheses}
use Rattle.just_lang_syntax.specs.Attributes.IsAttribute.{bare, behind_colon, grouped}
use Rattle.just_lang_syntax.specs.Attributes.IsAttributeLine.{in_brackets}
use Rattle.just_lang_syntax.specs.Attributes.AreAttributes.{line_by_line}
use Rattle.just_lang_syntax.specs.ItemReaders as item
use Rattle.just_lang_syntax.specs.Readers as reader
use Rattle.just_lang_read.specs.Tokens as tokens
use Rattle.just_lang_syntax.proofs.Tokens.{token_ok, token_lt}
use Rattle.just_lang_syntax.proofs.LineLaws.{behind_rest, behind_trailing}
use Rattle.just_lang_syntax.proofs.StringLaws.{string_ok, string_lt}
use Rattle.just_lang_syntax.proofs.ExprShorter.{name_lt, level_lt, inner_lt}
use Rattle.just_lang_syntax.proofs.PathLoop.{are_le}
use Rattle.just_lang_syntax.proofs.AttributeSound.{argument_ok, further_attribute_ok, attribute_line_ok}

-- ---- over what stands there

-- behind an expression as an argument less is left
pub behind_plain : (key : Option Name) (p q : Place) (x : Argument) → IsPlain key p q x → length q.rest < length p.rest
behind_plain key p q x (y, i, z) = level_lt (IsInner 256) (inner_lt 256) p q y i

-- behind a key and `=`
behind_key : (p q : Place) (k : Name) → IsKey p q k → length q.rest < length p.rest
behind_key p q k (key_sign m i t) = omega (arith, name_lt p m k i, token_lt 61 [] m q t)

-- behind a key of `arg`
behind_option : (earlier : List Argument) (p q : Place) (x : Argument) → IsOption earlier p q x → length q.rest < length p.rest
behind_option earlier p q x (alone k i b a n z) = name_lt p q k i
behind_option earlier p q x (valued m k i b f v) = omega (arith, behind_key p m k i, behind_plain (Some k) m q x v)
behind_option earlier p q x (number m k s digits i b f st means d z) = omega (arith, behind_key p m k i, string_lt m q s st)

-- behind an argument
pub behind_argument : (form : Form) (earlier : List Argument) (p q : Place) (x : Argument) → IsArgument form earlier p q x → length q.rest < length p.rest
behind_argument form earlier p q x (text t v) = behind_plain None p q x v
behind_argument form earlier p q x (option f n o) = behind_option (behind_first earlier) p q x o
behind_argument form earlier p q x (cached m k f i b v) = omega (arith, behind_key p m k i, behind_plain (Some k) m q x v)
behind_argument form earlier p q x (any f n v) = behind_plain None p q x v
behind_argument form earlier p q x (any_key m k f i v) = omega (arith, behind_key p m k i, behind_plain (Some k) m q x v)

-- behind further arguments no more is left
behind_further : (form : Form) (earlier : List Argument) (p q : Place) (xs : List Argument) → AreFurther form earlier p q xs → length q.rest ≤ length p.rest
behind_further form earlier p q [] (n, e) = rw e (omega arith)
behind_further form earlier p q (x ∷ xs) (m, n, g, t, i, are) =
    omega (arith, token_lt 44 [] p m t, behind_argument form earlier m n x i, behind_further form (earlier ++ x ∷ []) n q xs are)

-- behind arguments in parentheses less is left
pub behind_arguments : (form : Form) (p q : Place) (xs : List Argument) → AreArguments form p q xs → length q.rest < length p.rest
behind_arguments form p q xs (in_parentheses m n o r first others a i are c b z) =
    omega (arith, token_lt 40 [] p m a, behind_argument form [] m n first i, behind_further form (first ∷ []) n o others are, behind_trailing o r c, token_lt 41 [] r q b)

-- behind an attribute
pub behind_attribute : (p q : Place) (x : Attribute) → IsAttribute p q x → length q.rest < length p.rest
behind_attribute p q x (bare n i b c d z) = name_lt p q n i
behind_attribute p q x (behind_colon m o n s i c t st z) = omega (arith, name_lt p m n i, token_lt 58 [] m o t, string_lt o q s st)
behind_attribute p q x (grouped m n xs i are z) = omega (arith, name_lt p m n i, behind_arguments (form_of n.text) m q xs are)

-- behind a comma and an attribute
behind_further_attribute : (p q : Place) (x : Attribute) → IsFurtherAttribute p q x → length q.rest < length p.rest
behind_further_attribute p q x (m, t, i) = omega (arith, token_lt 44 [] p m t, behind_attribute m q x i)

-- behind a line of attributes
pub behind_attribute_line : (p q : Place) (xs : List Attribute) → IsAttributeLine p q xs → length q.rest < length p.rest
behind_attribute_line p q xs (in_brackets m n o r s first others c t i are u v e z) =
    rw e (omega (
      arith,
      token_lt 91 [] p m t,
      behind_attribute m n first i,
      are_le IsFurtherAttribute behind_further_attribute n o others are,
      token_lt 93 [] o r u,
      behind_rest r s c v,
      past_le is_blank s,
    ))

-- behind the attributes before an item no more is left
pub behind_attributes : (p q : Place) (xs : List Attribute) → AreAttributes p q xs → length q.rest ≤ length p.rest
behind_attributes p q xs (line_by_line lines are n z) = are_le IsAttributeLine behind_attribute_line p q lines are

-- ---- over what is read

-- a comma and an argument take a character
pub further_argument_lt : (form : Form) (earlier : List Argument) (p q : Place) (x : Argument) → item.further_argument form earlier p ≡ Ok (x, q) → length q.rest < length p.rest
unfolding item.further_argument
further_argument_lt form earlier p q x h =
    let (u, m, h1, k1) = bind_ok (tokens.token (codes ",") p) (λ _. item.argument form earlier) x q h in
    omega (arith, token_lt 44 [] p m (token_ok (codes ",") p u m h1), behind_argument form earlier m q x (argument_ok form earlier m q x k1))

-- a comma and an attribute take a character
pub further_attribute_lt : (p q : Place) (x : Attribute) → item.further_attribute p ≡ Ok (x, q) → length q.rest < length p.rest
further_attribute_lt p q x h = behind_further_attribute p q x (further_attribute_ok p q x h)

-- a line of attributes takes a character
pub attribute_line_lt : (p q : Place) (xs : List Attribute) → item.attribute_line p ≡ Ok (xs, q) → length q.rest < length p.rest
attribute_line_lt p q xs h = behind_attribute_line p q xs (attribute_line_ok p q xs h)

-- a comma and a string take a character
pub further_string_lt : (p q : Place) (x : StringLiteral) → item.further_string p ≡ Ok (x, q) → length q.rest < length p.rest
unfolding item.further_string
further_string_lt p q x h =
    let (u, m, h1, k1) = bind_ok (tokens.token (codes ",") p) (λ _. reader.string) x q h in
    omega (arith, token_lt 44 [] p m (token_ok (codes ",") p u m h1), string_lt m q x (string_ok m q x k1))
