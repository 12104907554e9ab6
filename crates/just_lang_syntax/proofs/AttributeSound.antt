-- Attributes: what the code reads is what the grammar says.
use Rattle.std.proofs.Common.{◌≡◌, ℕ, zero, suc, Bool, true, false, if◌then◌else◌, List, [], ◌∷◌, ◌++◌, length, Option, Some, None, Ok, Err, codes, refl, sym, ap, ◌∙◌, subst, ⊎_elim}
use Rattle.std.proofs.lemmas.Bool.{false≢true}
use Rattle.just_lang_read.specs.Place.{Place, AreMany, begins}
use Rattle.just_lang_read.specs.Reader.{Reader, and_then, pure, refuse, many}
use Rattle.just_lang_read.specs.declared.error.ReadError.TheVariants.{Syntax}
use Rattle.just_lang_read.proofs.Laws.{bind_ok, choose, ok_value, ok_place, many_ok}
use Rattle.just_lang_syntax.specs.declared.ast.Name.{Name}
use Rattle.just_lang_syntax.specs.declared.ast.StringLiteral.{StringLiteral}
use Rattle.just_lang_syntax.specs.declared.ast.Expr.TheVariants as e
use Rattle.just_lang_syntax.specs.declared.ast.Argument.{Argument}
use Rattle.just_lang_syntax.specs.declared.ast.Attribute.{Attribute}
use Rattle.just_lang_syntax.specs.declared.form.Form.{Form}
use Rattle.just_lang_syntax.specs.declared.form.Form.TheVariants.{Bare, MaybeText, Text, Texts, Arg, Cache, Open}
use Rattle.just_lang_syntax.specs.declared.form.KeyForm.{KeyForm}
use Rattle.just_lang_syntax.specs.declared.form.KeyForm.TheVariants.{Alone, Either, Value, Number, Unknown}
use Rattle.just_lang_read.specs.Lines.{skip, IsToken}
use Rattle.just_lang_syntax.specs.Places.{IsName}
use Rattle.just_lang_syntax.specs.Strings.{IsString, IsTextOf}
use Rattle.just_lang_syntax.specs.Exprs.{IsExpr}
use Rattle.just_lang_syntax.specs.Forms.{form_of, may_be_bare, has_colon, key_form, may_stand_alone, has_text}
use Rattle.just_lang_syntax.specs.Attributes.{argument_at, attribute_of, is_keyed, may_cache, may_have, is_decimal, goes_on, with_comment, concat}
use Rattle.just_lang_syntax.specs.Attributes.{IsPlain, IsKey, IsOption, IsArgument, AreFurther, AreArguments, IsAttribute, IsFurtherAttribute, IsAttributeLine, AreAttributes}
use Rattle.just_lang_syntax.specs.Attributes.IsKey.{key_sign}
use Rattle.just_lang_syntax.specs.Attributes.IsOption.{alone, valued, number}
use Rattle.just_lang_syntax.specs.Attributes.IsArgument.{text, option, cached, any, any_key}
use Rattle.just_lang_syntax.specs.Attributes.AreArguments.{in_parentheses}
use Rattle.just_lang_syntax.specs.Attributes.IsAttribute.{bare, behind_colon, grouped}
use Rattle.just_lang_syntax.specs.Attributes.IsAttributeLine.{in_brackets}
use Rattle.just_lang_syntax.specs.Attributes.AreAttributes.{line_by_line}
use Rattle.just_lang_syntax.specs.Meanings.{text_of}
use Rattle.just_lang_syntax.specs.ItemReaders as item
use Rattle.just_lang_syntax.specs.Readers as reader
use Rattle.just_lang_read.specs.Tokens as tokens
use Rattle.just_lang_syntax.proofs.Tokens.{token_ok, name_ok}
use Rattle.just_lang_syntax.proofs.LineLaws.{rest_ok, trailing_ok}
use Rattle.just_lang_syntax.proofs.StringLaws.{string_ok}
use Rattle.just_lang_syntax.proofs.TextLaws.{text_ok}
use Rattle.just_lang_syntax.proofs.ExprComplete.{expr_ok}

-- ---- an expression, with a key and without

-- an expression that is read as an argument stands there
pub plain_ok : (key : Option Name) (p q : Place) (x : Argument) → item.plain key p ≡ Ok (x, q) → IsPlain key p q x
unfolding item.plain
plain_ok key p q x h =
    let (y, m, h1, k1) = bind_ok (item.expr p) (λ y. pure (argument_at key p y)) x q h in
    (y, subst (λ (r : Place). IsExpr p r y) (ok_place (argument_at key p y) x m q k1) (expr_ok p m y h1), sym (ok_value (argument_at key p y) x m q k1))

-- so do `=` and an expression
signed_ok : (k : Name) (p q : Place) (x : Argument) → and_then (tokens.token (codes "=") p) (λ _. item.plain (Some k)) ≡ Ok (x, q)
    → (m : Place) × IsToken (codes "=") p m × IsPlain (Some k) m q x
signed_ok k p q x h =
    let (u, m, h1, k1) = bind_ok (tokens.token (codes "=") p) (λ _. item.plain (Some k)) x q h in
    (m, token_ok (codes "=") p u m h1, plain_ok (Some k) m q x k1)

-- and a key, `=` and an expression
pub keyed_ok : (p q : Place) (x : Argument) → item.keyed p ≡ Ok (x, q) → (m : Place) × (k : Name) × IsKey p m k × IsPlain (Some k) m q x
unfolding item.keyed
keyed_ok p q x h =
    let (k, m, h1, k1) = bind_ok (reader.name p) (λ k m. and_then (tokens.token (codes "=") m) (λ _. item.plain (Some k))) x q h in
    let (n, t, i) = signed_ok k m q x k1 in
    (n, k, key_sign m (name_ok p k m h1) t, i)

-- ---- arguments of `cache`

-- so does what is read behind a key that `cache` may have
cached_as_ok : (b : Bool) (earlier : List Argument) (p m q : Place) (k : Name) (x : Argument) → may_cache earlier k.text ≡ b → IsName p m k
    → item.cached_as b k m ≡ Ok (x, q) → IsArgument Cache earlier p q x
cached_as_ok false earlier p m q k x b i h = absurd (let no : ⊥ = cc (h) in no)
cached_as_ok true earlier p m q k x b i h =
    let (n, t, v) = signed_ok k m q x h in
    cached n k refl (key_sign m i t) b v

-- an argument of `cache` that is read stands there
cached_ok : (earlier : List Argument) (p q : Place) (x : Argument) → item.cached earlier p ≡ Ok (x, q) → IsArgument Cache earlier p q x
unfolding item.cached
cached_ok earlier p q x h =
    let (k, m, h1, k1) = bind_ok (reader.name p) (λ k. item.cached_as (may_cache earlier k.text) k) x q h in
    cached_as_ok (may_cache earlier k.text) earlier p m q k x refl (name_ok p k m h1) k1

-- ---- keys of `arg`

-- a string that holds a number
record IsNumber (k : Name) (p q : Place) (x : Argument) : Type 0 where
  s : StringLiteral
  digits : List ℕ
  stands : IsString p q s
  means : IsTextOf s digits
  decimal : is_decimal digits ≡ true
  is : x ≡ argument_at (Some k) p (e.Literal s)

-- a text that is a decimal number is what the string means
decimal_ok : (s : StringLiteral) (o : Option (List ℕ)) → text_of s ≡ o → item.is_some_decimal o ≡ true → (t : List ℕ) × IsTextOf s t × (is_decimal t ≡ true)
decimal_ok s None m h = absurd (false≢true h)
decimal_ok s (Some t) m h = (t, text_ok s t m, h)

-- a string that is read as a number is one
number_ok : (k : Name) (p q : Place) (x : Argument) → item.number_argument k p ≡ Ok (x, q) → IsNumber k p q x
unfolding item.number_argument
number_ok k p q x h =
    let (s, m, h1, k1) = bind_ok (reader.string p) (item.number_of k p) x q h in
    let found = argument_at (Some k) p (e.Literal s) in
    ⊎_elim
    (λ (c : _).
    let (t, means, d) = decimal_ok s (text_of s) refl c.0 in
    record {
      s = s;
      digits = t;
      stands = subst (λ (r : Place). IsString p r s) (ok_place found x m q c.1) (string_ok p m s h1);
      means = means;
      decimal = d;
      is = sym (ok_value found x m q c.1);
    })
    (λ (c : _). absurd (let no : ⊥ = cc (c.1) in no))
    (choose (item.is_some_decimal (text_of s)) (Ok (found, m)) (Err Syntax) (Ok (x, q)) k1)

-- what is read behind a key with `=`, by the form of the key, stands there
valued_ok : (form : KeyForm) (earlier : List Argument) (p m q : Place) (k : Name) (x : Argument) → key_form k.text ≡ form → may_have earlier k.text ≡ true
    → IsName p m k → item.valued form k m ≡ Ok (x, q) → IsOption earlier p q x
valued_ok Alone earlier p m q k x f b i h = absurd (let no : ⊥ = cc (h) in no)
valued_ok Either earlier p m q k x f b i h = let (n, t, v) = signed_ok k m q x h in valued n k (key_sign m i t) b (ap has_text f) v
valued_ok Value earlier p m q k x f b i h = let (n, t, v) = signed_ok k m q x h in valued n k (key_sign m i t) b (ap has_text f) v
valued_ok Number earlier p m q k x f b i h =
    let (u, n, h1, k1) = bind_ok (tokens.token (codes "=") m) (λ _. item.number_argument k) x q h in
    let v = number_ok k n q x k1 in
    number n k v.s v.digits (key_sign m i (token_ok (codes "=") m u n h1)) b f v.stands v.means v.decimal v.is
valued_ok Unknown earlier p m q k x f b i h = absurd (let no : ⊥ = cc (h) in no)

-- what is read behind a key that `arg` may have stands there
option_as_ok : (b : Bool) (earlier : List Argument) (p m q : Place) (k : Name) (x : Argument) → may_have earlier k.text ≡ b → IsName p m k
    → item.option_as b p k m ≡ Ok (x, q) → IsOption earlier p q x
option_as_ok false earlier p m q k x b i h = absurd (let no : ⊥ = cc (h) in no)
option_as_ok true earlier p m q k x b i h =
    let found = argument_at None p (e.Variable k) in
    ⊎_elim (λ (s : _). valued_ok (key_form k.text) earlier p m q k x refl b i s.1)
    (λ (s : _).
    ⊎_elim
    (λ (t : _).
    let end : m ≡ q = ok_place found x m q t.1 in
    alone k (subst (λ (r : Place). IsName p r k) end i) b t.0 (ap (begins (codes "=")) (sym end) ∙ s.0) (sym (ok_value found x m q t.1)))
    (λ (t : _). absurd (let no : ⊥ = cc (t.1) in no))
    (choose (may_stand_alone (key_form k.text)) (Ok (found, m)) (Err Syntax) (Ok (x, q)) s.1))
    (choose (begins (codes "=") m) (item.valued (key_form k.text) k m) (if may_stand_alone (key_form k.text) then Ok (found, m) else Err Syntax) (Ok (x, q)) h)

-- a key of `arg` that is read stands there
pub option_ok : (earlier : List Argument) (p q : Place) (x : Argument) → item.option earlier p ≡ Ok (x, q) → IsOption earlier p q x
unfolding item.option
option_ok earlier p q x h =
    let (k, m, h1, k1) = bind_ok (reader.name p) (λ k. item.option_as (may_have earlier k.text) p k) x q h in
    option_as_ok (may_have earlier k.text) earlier p m q k x refl (name_ok p k m h1) k1

-- ---- arguments

-- an argument of a name that isn't known stands there
open_ok : (earlier : List Argument) (p q : Place) (x : Argument) → (if is_keyed p then item.keyed p else item.plain None p) ≡ Ok (x, q) → IsArgument Open earlier p q x
open_ok earlier p q x h =
    ⊎_elim (λ (s : _). let (m, k, i, v) = keyed_ok p q x s.1 in any_key m k refl i v) (λ (s : _). any refl s.0 (plain_ok None p q x s.1))
    (choose (is_keyed p) (item.keyed p) (item.plain None p) (Ok (x, q)) h)

-- an argument that is read by the form of the attribute stands there
argument_of_ok : (form : Form) (earlier : List Argument) (p q : Place) (x : Argument) → item.argument_of form earlier p ≡ Ok (x, q) → IsArgument form earlier p q x
argument_of_ok Bare earlier p q x h = absurd (let no : ⊥ = cc (h) in no)
argument_of_ok MaybeText [] p q x h = text refl (plain_ok None p q x h)
argument_of_ok MaybeText (y ∷ earlier) p q x h = absurd (let no : ⊥ = cc (h) in no)
argument_of_ok Text [] p q x h = text refl (plain_ok None p q x h)
argument_of_ok Text (y ∷ earlier) p q x h = absurd (let no : ⊥ = cc (h) in no)
argument_of_ok Texts earlier p q x h = text refl (plain_ok None p q x h)
argument_of_ok Arg [] p q x h = text refl (plain_ok None p q x h)
argument_of_ok Arg (y ∷ earlier) p q x h = option refl refl (option_ok earlier p q x h)
argument_of_ok Cache earlier p q x h = cached_ok earlier p q x h
argument_of_ok Open earlier p q x h = open_ok earlier p q x h

-- an argument that is read stands there
pub argument_ok : (form : Form) (earlier : List Argument) (p q : Place) (x : Argument) → item.argument form earlier p ≡ Ok (x, q) → IsArgument form earlier p q x
unfolding item.argument
argument_ok form earlier p q x h = argument_of_ok form earlier p q x h

-- further arguments that one turn reads stand there, if those behind the first do
further_turn : (form : Form) (others : List Argument → Reader (List Argument))
    → ((earlier : List Argument) (p q : Place) (xs : List Argument) → others earlier p ≡ Ok (xs, q) → AreFurther form earlier p q xs)
    → (earlier : List Argument) (p q : Place) (xs : List Argument) → item.further_step form others earlier p ≡ Ok (xs, q) → AreFurther form earlier p q xs
unfolding item.further_argument
further_turn form others are earlier p q xs h =
    ⊎_elim
    (λ (s : _).
    let (x, n, h1, k1) = bind_ok (item.further_argument form earlier p) (λ x n. and_then (others (earlier ++ x ∷ []) n) (λ ys. pure (x ∷ ys))) xs q s.1 in
    let (u, m, h2, k2) = bind_ok (tokens.token (codes ",") p) (λ _. item.argument form earlier) x n h1 in
    let (ys, o, h3, k3) = bind_ok (others (earlier ++ x ∷ []) n) (λ ys. pure (x ∷ ys)) xs q k1 in
    let end : o ≡ q = ok_place (x ∷ ys) xs o q k3 in
    subst (λ (zs : List Argument). AreFurther form earlier p q zs) (ok_value (x ∷ ys) xs o q k3) (
      m,
      n,
      s.0,
      token_ok (codes ",") p u m h2,
      argument_ok form earlier m n x k2,
      subst (λ (r : Place). AreFurther form (earlier ++ x ∷ []) n r ys) end (are (earlier ++ x ∷ []) n o ys h3),
    ))
    (λ (s : _). subst (λ (zs : List Argument). AreFurther form earlier p q zs) (ok_value [] xs p q s.1) (s.0, sym (ok_place [] xs p q s.1)))
    (choose (goes_on p) (and_then (item.further_argument form earlier p) (λ x n. and_then (others (earlier ++ x ∷ []) n) (λ ys. pure (x ∷ ys)))) (Ok ([], p)) (Ok (xs, q)) h)

-- further arguments that so many turns read stand there
bounded_ok : (form : Form) (bound : ℕ) (earlier : List Argument) (p q : Place) (xs : List Argument) → item.further_in form bound earlier p ≡ Ok (xs, q) → AreFurther form earlier p q xs
bounded_ok form zero earlier p q xs h = further_turn form (λ e. refuse) (λ e a b ys k. absurd (let no : ⊥ = cc (k) in no)) earlier p q xs h
bounded_ok form (suc bound) earlier p q xs h = further_turn form (item.further_in form bound) (bounded_ok form bound) earlier p q xs h

-- further arguments that are read stand there
pub further_ok : (form : Form) (earlier : List Argument) (p q : Place) (xs : List Argument) → item.further form earlier p ≡ Ok (xs, q) → AreFurther form earlier p q xs
unfolding item.further
further_ok form earlier p q xs h = bounded_ok form (length p.rest) earlier p q xs h

-- arguments in parentheses that are read stand there
pub arguments_ok : (form : Form) (p q : Place) (xs : List Argument) → item.arguments form p ≡ Ok (xs, q) → AreArguments form p q xs
unfolding item.arguments item.argument_list
arguments_ok form p q xs h =
    let (u, m, h1, k1) = bind_ok (tokens.token (codes "(") p) _ xs q h in
    let (ys, o, h2, k2) = bind_ok (item.argument_list form m) _ xs q k1 in
    let (v, r, h3, k3) = bind_ok (item.trailing o) _ xs q k2 in
    let (w, l, h4, k4) = bind_ok (tokens.token (codes ")") r) _ xs q k3 in
    let (x, n, h5, k5) = bind_ok (item.argument form [] m) (λ x n. and_then (item.further form (x ∷ []) n) (λ zs. pure (x ∷ zs))) ys o h2 in
    let (zs, i, h6, k6) = bind_ok (item.further form (x ∷ []) n) (λ zs. pure (x ∷ zs)) ys o k5 in
    let end : l ≡ q = ok_place ys xs l q k4 in
    in_parentheses m n o r x zs (token_ok (codes "(") p u m h1) (argument_ok form [] m n x h5)
    (subst (λ (b : Place). AreFurther form (x ∷ []) n b zs) (ok_place (x ∷ zs) ys i o k6) (further_ok form (x ∷ []) n i zs h6)) (trailing_ok o r v h3)
    (subst (λ (b : Place). IsToken (codes ")") r b) end (token_ok (codes ")") r w l h4)) (sym (ok_value (x ∷ zs) ys i o k6 ∙ ok_value ys xs l q k4))

-- ---- attributes

-- a string that is read behind a colon stands there
colon_ok : (n : Name) (p m q : Place) (xs : List Argument) → IsName p m n → item.colon_argument (form_of n.text) m ≡ Ok (xs, q) → IsAttribute p q (attribute_of n true xs)
colon_ok n p m q xs i h =
    ⊎_elim
    (λ (s : _).
    let (u, o, h1, k1) = bind_ok (tokens.token (codes ":") m) (λ _ o. and_then (reader.string o) (λ t. pure (argument_at None o (e.Literal t) ∷ []))) xs q s.1 in
    let (t, l, h2, k2) = bind_ok (reader.string o) (λ t. pure (argument_at None o (e.Literal t) ∷ [])) xs q k1 in
    let found = argument_at None o (e.Literal t) ∷ [] in
    behind_colon m o n t i s.0 (token_ok (codes ":") m u o h1) (subst (λ (r : Place). IsString o r t) (ok_place found xs l q k2) (string_ok o l t h2))
    (ap (attribute_of n true) (sym (ok_value found xs l q k2))))
    (λ (s : _). absurd (let no : ⊥ = cc (s.1) in no))
    (choose (has_colon (form_of n.text)) (and_then (tokens.token (codes ":") m) (λ _ o. and_then (reader.string o) (λ t. pure (argument_at None o (e.Literal t) ∷ []))))
    (Err Syntax) (Ok (xs, q)) h)

-- what is read behind the name of an attribute stands there
attribute_as_ok : (n : Name) (p m q : Place) (x : Attribute) → IsName p m n → item.attribute_as n m ≡ Ok (x, q) → IsAttribute p q x
attribute_as_ok n p m q x i h =
    ⊎_elim
    (λ (s : _).
    let (xs, l, h1, k1) = bind_ok (item.colon_argument (form_of n.text) m) (λ xs. pure (attribute_of n true xs)) x q s.1 in
    subst (λ (y : Attribute). IsAttribute p q y) (ok_value (attribute_of n true xs) x l q k1)
    (subst (λ (r : Place). IsAttribute p r (attribute_of n true xs)) (ok_place (attribute_of n true xs) x l q k1) (colon_ok n p m l xs i h1)))
    (λ (s : _).
    ⊎_elim
    (λ (t : _).
    let (xs, l, h1, k1) = bind_ok (item.arguments (form_of n.text) m) (λ xs. pure (attribute_of n false xs)) x q t.1 in
    grouped m n xs i (subst (λ (r : Place). AreArguments (form_of n.text) m r xs) (ok_place (attribute_of n false xs) x l q k1) (arguments_ok (form_of n.text) m l xs h1))
    (sym (ok_value (attribute_of n false xs) x l q k1)))
    (λ (t : _).
    ⊎_elim
    (λ (w : _).
    let end : m ≡ q = ok_place (attribute_of n false []) x m q w.1 in
    bare n (subst (λ (r : Place). IsName p r n) end i) w.0 (ap (begins (codes ":")) (sym end) ∙ s.0) (ap (begins (codes "(")) (sym end) ∙ t.0)
    (sym (ok_value (attribute_of n false []) x m q w.1)))
    (λ (w : _). absurd (let no : ⊥ = cc (w.1) in no))
    (choose (may_be_bare (form_of n.text)) (Ok (attribute_of n false [], m)) (Err Syntax) (Ok (x, q)) t.1))
    (choose (begins (codes "(") m) (and_then (item.arguments (form_of n.text) m) (λ xs. pure (attribute_of n false xs)))
    (if may_be_bare (form_of n.text) then Ok (attribute_of n false [], m) else Err Syntax) (Ok (x, q)) s.1))
    (choose (begins (codes ":") m) (and_then (item.colon_argument (form_of n.text) m) (λ xs. pure (attribute_of n true xs)))
    (if begins (codes "(") m then and_then (item.arguments (form_of n.text) m) (λ xs. pure (attribute_of n false xs))
    else (if may_be_bare (form_of n.text) then Ok (attribute_of n false [], m) else Err Syntax)) (Ok (x, q)) h)

-- an attribute that is read stands there
pub attribute_ok : (p q : Place) (x : Attribute) → item.attribute p ≡ Ok (x, q) → IsAttribute p q x
unfolding item.attribute
attribute_ok p q x h =
    let (n, m, h1, k1) = bind_ok (reader.name p) item.attribute_as x q h in
    attribute_as_ok n p m q x (name_ok p n m h1) k1

-- so do a comma and an attribute
pub further_attribute_ok : (p q : Place) (x : Attribute) → item.further_attribute p ≡ Ok (x, q) → IsFurtherAttribute p q x
unfolding item.further_attribute
further_attribute_ok p q x h =
    let (u, m, h1, k1) = bind_ok (tokens.token (codes ",") p) (λ _. item.attribute) x q h in
    (m, token_ok (codes ",") p u m h1, attribute_ok m q x k1)

-- a line of attributes that is read stands there
pub attribute_line_ok : (p q : Place) (xs : List Attribute) → item.attribute_line p ≡ Ok (xs, q) → IsAttributeLine p q xs
unfolding item.attribute_line item.attribute_list
attribute_line_ok p q xs h =
    let (u, m, h1, k1) = bind_ok (tokens.token (codes "[") p) _ xs q h in
    let (ys, o, h2, k2) = bind_ok (item.attribute_list m) _ xs q k1 in
    let (v, r, h3, k3) = bind_ok (tokens.token (codes "]") o) _ xs q k2 in
    let (c, s, h4, k4) = bind_ok (reader.rest r) (λ c s. Ok (with_comment c ys, skip s)) xs q k3 in
    let (x, n, h5, k5) = bind_ok (item.attribute m) (λ x n. and_then (many (begins (codes ",")) item.further_attribute n) (λ zs. pure (x ∷ zs))) ys o h2 in
    let (zs, i, h6, k6) = bind_ok (many (begins (codes ",")) item.further_attribute n) (λ zs. pure (x ∷ zs)) ys o k5 in
    let (are, done) = many_ok (begins (codes ",")) item.further_attribute IsFurtherAttribute (λ a b y g k. further_attribute_ok a b y k) n i zs h6 in
    in_brackets m n o r s x zs c (token_ok (codes "[") p u m h1) (attribute_ok m n x h5)
    (subst (λ (b : Place). AreMany IsFurtherAttribute n b zs) (ok_place (x ∷ zs) ys i o k6) are) (token_ok (codes "]") o v r h3) (rest_ok r s c h4)
    (sym (ok_place (with_comment c ys) xs (skip s) q k4)) (sym (ap (with_comment c) (ok_value (x ∷ zs) ys i o k6) ∙ ok_value (with_comment c ys) xs (skip s) q k4))

-- the attributes before an item that are read stand there
pub attributes_ok : (p q : Place) (xs : List Attribute) → item.attributes p ≡ Ok (xs, q) → AreAttributes p q xs
unfolding item.attributes
attributes_ok p q xs h =
    let (lines, m, h1, k1) = bind_ok (many (begins (codes "[")) item.attribute_line p) (λ lines. pure (concat lines)) xs q h in
    let (are, done) = many_ok (begins (codes "[")) item.attribute_line IsAttributeLine (λ a b y g k. attribute_line_ok a b y k) p m lines h1 in
    let end : m ≡ q = ok_place (concat lines) xs m q k1 in
    line_by_line lines (subst (λ (r : Place). AreMany IsAttributeLine p r lines) end are) (subst (λ (r : Place). begins (codes "[") r ≡ false) end done)
    (sym (ok_value (concat lines) xs m q k1))
