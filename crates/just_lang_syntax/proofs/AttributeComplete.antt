-- Attributes: what the grammar says is read, so it is one.
use Rattle.std.proofs.Common.{◌≡◌, true, false, List, [], ◌∷◌, ◌++◌, Option, Some, None, Ok, codes, refl, sym, ◌∙◌}
use Rattle.std.proofs.lemmas.Bool.{false≢true}
use Rattle.just_lang_read.specs.Place.{Place, begins}
use Rattle.just_lang_read.specs.Reader.{pure}
use Rattle.just_lang_read.proofs.Laws.{ok_value, ok_place, many_again}
use Rattle.just_lang_syntax.specs.declared.ast.Name.{Name}
use Rattle.just_lang_syntax.specs.declared.ast.Argument.{Argument}
use Rattle.just_lang_syntax.specs.declared.ast.Attribute.{Attribute}
use Rattle.just_lang_syntax.specs.declared.form.Form.{Form}
use Rattle.just_lang_syntax.specs.declared.form.Form.TheVariants.{Bare, MaybeText, Text, Texts, Arg, Cache, Open}
use Rattle.just_lang_syntax.specs.declared.form.KeyForm.{KeyForm}
use Rattle.just_lang_syntax.specs.declared.form.KeyForm.TheVariants.{Alone, Either, Value, Number, Unknown}
use Rattle.just_lang_read.specs.Lines.{IsToken}
use Rattle.just_lang_syntax.specs.Forms.{form_of, key_form, has_text}
use Rattle.just_lang_syntax.specs.Attributes.{is_keyed, takes_text, is_first, behind_first}
use Rattle.just_lang_syntax.specs.Attributes.{IsPlain, IsKey, IsOption, IsArgument, AreFurther, AreArguments, IsAttribute, IsFurtherAttribute, IsAttributeLine, AreAttributes}
use Rattle.just_lang_syntax.specs.Attributes.IsKey.{key_sign}
use Rattle.just_lang_syntax.specs.Attributes.IsOption.{alone, valued, number}
use Rattle.just_lang_syntax.specs.Attributes.IsArgument.{text, option, cached, any, any_key}
use Rattle.just_lang_syntax.specs.Attributes.AreArguments.{in_parentheses}
use Rattle.just_lang_syntax.specs.Attributes.IsAttribute.{bare, behind_colon, grouped}
use Rattle.just_lang_syntax.specs.Attributes.IsAttributeLine.{in_brackets}
use Rattle.just_lang_syntax.specs.Attributes.AreAttributes.{line_by_line}
use Rattle.just_lang_syntax.specs.ItemReaders as item
use Rattle.just_lang_read.proofs.Laws.{begins_first, begins_other}
use Rattle.just_lang_syntax.proofs.Tokens.{token_again, name_again}
use Rattle.just_lang_syntax.proofs.LineLaws.{rest_again, trailing_again}
use Rattle.just_lang_syntax.proofs.StringLaws.{string_again}
use Rattle.just_lang_syntax.proofs.TextLaws.{text_again}
use Rattle.just_lang_syntax.proofs.ExprComplete.{expr_again}
use Rattle.just_lang_syntax.proofs.AttributeLoops.{list_shorter, lines_shorter, further_is, further_end}

-- ---- an expression, with a key and without

-- an expression that stands there is read as an argument
pub plain_again : (key : Option Name) (p q : Place) (x : Argument) → IsPlain key p q x → item.plain key p ≡ Ok (x, q)
unfolding item.plain
plain_again key p q x (y, i, z) = rw (expr_again p q y i, z) refl

-- where a key and `=` stand, their test says so
pub key_is : (p q : Place) (k : Name) → IsKey p q k → is_keyed p ≡ true
key_is p q k (key_sign m (b, e, z) t) = rw (b, ← e, t.0) refl

-- a key, `=` and an expression that stand there are read
pub keyed_again : (p m q : Place) (k : Name) (x : Argument) → IsKey p m k → IsPlain (Some k) m q x → item.keyed p ≡ Ok (x, q)
unfolding item.keyed
keyed_again p m q k x (key_sign o i t) v = rw (name_again p o k i, token_again (codes "=") o m t) (plain_again (Some k) m q x v)

-- ---- keys of `arg`

-- `=` and an expression that stand behind a key are read
valued_again : (form : KeyForm) (k : Name) (o m q : Place) (x : Argument) → has_text form ≡ true → IsToken (codes "=") o m → IsPlain (Some k) m q x
    → item.valued form k o ≡ Ok (x, q)
valued_again Alone k o m q x h t v = absurd (false≢true h)
valued_again Either k o m q x h t v = rw (token_again (codes "=") o m t) (plain_again (Some k) m q x v)
valued_again Value k o m q x h t v = rw (token_again (codes "=") o m t) (plain_again (Some k) m q x v)
valued_again Number k o m q x h t v = absurd (false≢true h)
valued_again Unknown k o m q x h t v = absurd (false≢true h)

-- a key of `arg` that stands there is read
pub option_again : (earlier : List Argument) (p q : Place) (x : Argument) → IsOption earlier p q x → item.option earlier p ≡ Ok (x, q)
unfolding item.option item.number_argument
option_again earlier p q x (alone k i b a n z) = rw (name_again p q k i, b, n, a, z) refl
option_again earlier p q x (valued m k (key_sign o i t) b f v) =
    rw (name_again p o k i, b, t.0) (valued_again (key_form k.text) k o m q x f t v)
option_again earlier p q x (number m k s digits (key_sign o i t) b f st means d z) =
    rw (name_again p o k i, b, t.0, f, token_again (codes "=") o m t, string_again m q s st, text_again s digits means, d, z) refl

-- ---- arguments

-- an expression without a key that stands there is read, where the attribute has one
text_argument : (form : Form) (earlier : List Argument) (p q : Place) (x : Argument) → takes_text form earlier ≡ true → IsPlain None p q x
    → item.argument_of form earlier p ≡ Ok (x, q)
text_argument Bare earlier p q x t v = absurd (false≢true t)
text_argument MaybeText [] p q x t v = plain_again None p q x v
text_argument MaybeText (y ∷ earlier) p q x t v = absurd (false≢true t)
text_argument Text [] p q x t v = plain_again None p q x v
text_argument Text (y ∷ earlier) p q x t v = absurd (false≢true t)
text_argument Texts earlier p q x t v = plain_again None p q x v
text_argument Arg [] p q x t v = plain_again None p q x v
text_argument Arg (y ∷ earlier) p q x t v = absurd (false≢true t)
text_argument Cache earlier p q x t v = absurd (false≢true t)
text_argument Open earlier p q x t v = absurd (false≢true t)

-- a key of `arg` that stands behind its first argument is read
key_argument : (earlier : List Argument) (p q : Place) (x : Argument) → is_first earlier ≡ false → IsOption (behind_first earlier) p q x
    → item.argument_of Arg earlier p ≡ Ok (x, q)
key_argument [] p q x f o = absurd (false≢true (sym f))
key_argument (y ∷ earlier) p q x f o = option_again earlier p q x o

-- an argument that stands there is read
pub argument_again : (form : Form) (earlier : List Argument) (p q : Place) (x : Argument) → IsArgument form earlier p q x → item.argument form earlier p ≡ Ok (x, q)
unfolding item.argument item.cached
argument_again form earlier p q x (text t v) = text_argument form earlier p q x t v
argument_again form earlier p q x (option f n o) = rw f (key_argument earlier p q x n o)
argument_again form earlier p q x (cached m k f (key_sign o i t) b v) =
    rw (f, name_again p o k i, b, token_again (codes "=") o m t) (plain_again (Some k) m q x v)
argument_again form earlier p q x (any f n v) = rw (f, n) (plain_again None p q x v)
argument_again form earlier p q x (any_key m k f i v) = rw (f, key_is p m k i) (keyed_again p m q k x i v)

-- a comma and an argument that stand there are read
pub further_argument_again : (form : Form) (earlier : List Argument) (p m q : Place) (x : Argument) → IsToken (codes ",") p m → IsArgument form earlier m q x
    → item.further_argument form earlier p ≡ Ok (x, q)
unfolding item.further_argument
further_argument_again form earlier p m q x t i = rw (token_again (codes ",") p m t) (argument_again form earlier m q x i)

-- further arguments that stand there are read
pub further_again : (form : Form) (earlier : List Argument) (p q : Place) (xs : List Argument) → AreFurther form earlier p q xs → item.further form earlier p ≡ Ok (xs, q)
further_again form earlier p q [] (n, e) = further_end form p earlier n ∙ rw e refl
further_again form earlier p q (x ∷ xs) (m, n, g, t, i, are) =
    further_is form earlier p ∙ rw (g, further_argument_again form earlier p m n x t i, further_again form (earlier ++ x ∷ []) n q xs are) refl

-- arguments in parentheses that stand there are read
pub arguments_again : (form : Form) (p q : Place) (xs : List Argument) → AreArguments form p q xs → item.arguments form p ≡ Ok (xs, q)
unfolding item.arguments item.argument_list
arguments_again form p q xs (in_parentheses m n o r first others a i are c b z) =
    rw (
      token_again (codes "(") p m a,
      argument_again form [] m n first i,
      further_again form (first ∷ []) n o others are,
      trailing_again o r c,
      token_again (codes ")") r q b,
      z,
    ) refl

-- and begin with a parenthesis
pub arguments_begin : (form : Form) (p q : Place) (xs : List Argument) → AreArguments form p q xs → begins (codes "(") p ≡ true
arguments_begin form p q xs (in_parentheses m n o r first others a i are c b z) = a.0

-- ---- attributes

-- an attribute that stands there is read
pub attribute_again : (p q : Place) (x : Attribute) → IsAttribute p q x → item.attribute p ≡ Ok (x, q)
unfolding item.attribute
attribute_again p q x (bare n i b c d z) = rw (name_again p q n i, c, d, b, z) refl
attribute_again p q x (behind_colon m o n s i c t st z) = rw (name_again p m n i, t.0, c, token_again (codes ":") m o t, string_again o q s st, z) refl
attribute_again p q x (grouped m n xs i are z) =
    let b : begins (codes "(") m ≡ true = arguments_begin (form_of n.text) m q xs are in
    rw (name_again p m n i, begins_other 40 58 [] m (begins_first 40 [] m b) refl, b, arguments_again (form_of n.text) m q xs are, z) refl

-- a comma and an attribute that stand there are read
pub further_attribute_again : (p q : Place) (x : Attribute) → IsFurtherAttribute p q x → (begins (codes ",") p ≡ true) × (item.further_attribute p ≡ Ok (x, q))
unfolding item.further_attribute
further_attribute_again p q x (m, t, i) = (t.0, rw (token_again (codes ",") p m t) (attribute_again m q x i))

-- a line of attributes that stands there is read
pub attribute_line_again : (p q : Place) (xs : List Attribute) → IsAttributeLine p q xs → (begins (codes "[") p ≡ true) × (item.attribute_line p ≡ Ok (xs, q))
unfolding item.attribute_line item.attribute_list
attribute_line_again p q xs (in_brackets m n o r s first others c t i are u v e z) =
    let no_comma : begins (codes ",") o ≡ false = begins_other 93 44 [] o (begins_first 93 [] o u.0) refl in (
      t.0,
      rw (
        token_again (codes "[") p m t,
        attribute_again m n first i,
        many_again (begins (codes ",")) item.further_attribute list_shorter IsFurtherAttribute further_attribute_again n o others are no_comma,
        token_again (codes "]") o r u,
        rest_again r s c v,
        e,
        z,
      ) refl,
    )

-- the attributes before an item that stand there are read
pub attributes_again : (p q : Place) (xs : List Attribute) → AreAttributes p q xs → item.attributes p ≡ Ok (xs, q)
unfolding item.attributes
attributes_again p q xs (line_by_line lines are n z) =
    rw (many_again (begins (codes "[")) item.attribute_line lines_shorter IsAttributeLine attribute_line_again p q lines are n, z) refl

-- so one list of attributes stands there, and ends at one place
pub attributes_one : (p q r : Place) (xs ys : List Attribute) → AreAttributes p q xs → AreAttributes p r ys → (xs ≡ ys) × (q ≡ r)
attributes_one p q r xs ys i j =
    let k : pure xs q ≡ Ok (ys, r) = sym (attributes_again p q xs i) ∙ attributes_again p r ys j in
    (ok_value xs ys q r k, ok_place xs ys q r k)
