-- What is printed of an argument of an attribute is read again, where a comma or a closing parenthesis stood behind it.
use Rattle.std.proofs.Common.{◌≡◌, ℕ, ◌==◌, Bool, true, false, not, ◌&&◌, ◌||◌, if◌then◌else◌, List, [], ◌∷◌, ◌++◌, Option, Some, None, codes, refl, sym, ap, ◌∙◌, subst, append_assoc}
use Rattle.std.proofs.lemmas.Bool.{false≢true}
use Rattle.just_lang_read.specs.Place.{Place, Rule, next, run, first_in, passes, starts, sees, begins, begins_in, behind_text}
use Rattle.just_lang_read.proofs.Laws.{starts_at, sees_first, first_is}
use Rattle.just_lang_read.specs.declared.quote.Quote.{Quote}
use Rattle.just_lang_read.specs.declared.quote.Quote.TheVariants.{Single, Double, SingleBlock, DoubleBlock}
use Rattle.just_lang_syntax.specs.declared.ast.Name.{Name}
use Rattle.just_lang_syntax.specs.declared.ast.StringLiteral.{StringLiteral}
use Rattle.just_lang_syntax.specs.declared.ast.Expr.{Expr}
use Rattle.just_lang_syntax.specs.declared.ast.Expr.TheVariants as e
use Rattle.just_lang_syntax.specs.declared.ast.Argument.{Argument}
use Rattle.just_lang_syntax.specs.declared.form.Form.{Form}
use Rattle.just_lang_syntax.specs.declared.form.Form.TheVariants.{Open}
use Rattle.just_lang_read.specs.Characters.{is_blank, begins_name, in_name, is_quote}
use Rattle.just_lang_read.specs.Lines.{is_word, behind_word, IsWord}
use Rattle.just_lang_read.specs.Quotes.{quote_at}
use Rattle.just_lang_syntax.specs.Places.{name_at, IsName}
use Rattle.just_lang_syntax.specs.Strings.{IsString, IsTextOf}
use Rattle.just_lang_syntax.specs.Strings.IsString.{string}
use Rattle.just_lang_syntax.specs.Strings.IsTextOf.{raw, cooked}
use Rattle.just_lang_syntax.specs.Exprs.{begins_expr, begins_condition, IsValue, IsLevel, IsInner, IsExpr}
use Rattle.just_lang_syntax.specs.Exprs.IsValue.{literal, group, env, variable}
use Rattle.just_lang_syntax.specs.Exprs.IsLevel.{conditional, root, value, joined, concatenated}
use Rattle.just_lang_syntax.specs.Forms.{key_form, may_stand_alone, has_text}
use Rattle.just_lang_syntax.specs.Attributes.{argument_at, IsKey, is_keyed, may_cache, may_have, is_decimal, behind_first, IsOption, IsArgument}
use Rattle.just_lang_syntax.specs.Attributes.IsKey.{key_sign}
use Rattle.just_lang_syntax.specs.Attributes.IsOption.{alone, valued, number}
use Rattle.just_lang_syntax.specs.Attributes.IsArgument.{text, option, cached, any, any_key}
use Rattle.just_print.specs.Printed.{printed_expr, printed_argument}
use Rattle.just_print.specs.Shapes.{bare_name, bare_string, bare_expr, bare_argument}
use Rattle.just_print.proofs.Exprs.{literal_is, variable_is}
use Rattle.just_print.proofs.BareExprs.{bare_literal, bare_variable}
use Rattle.just_print.proofs.Places.{beyond, beyond_dark, beyond_nothing, behind_front, and_true, begins_one, parts, parts_test, Near, token_back}
use Rattle.just_print.proofs.NamesBack.{Back, name_stands}
use Rattle.just_print.proofs.PiecesBack.{front_of}
use Rattle.just_print.proofs.StringsBack.{quote_character, quote_first, StringStands, string_stands}
use Rattle.just_print.proofs.PathsBack.{name_cell}
use Rattle.just_print.proofs.WordsBack.{joined_text, plain_text, begins_first, token_first, begins_other, begins_near}
use Rattle.just_print.proofs.ValuesBack.{At}
use Rattle.just_print.proofs.ExprsBack.{expr_back}
use Rattle.just_print.proofs.OutsideBack.{after, behind_in}
use Rattle.just_print.proofs.SettingsOutside.{token_left}

-- what is printed and read again by one rule is so by another that follows from it before what is near
again_as : {A : Type 0} (Is Js : Rule A) (bare : A → A) (p q : Place) (x : A) (printed : List ℕ)
    → ((r s : Place) (y : A) → Near s.rest q.rest → Is r s y → Js r s y) → Back Is bare p q x printed → Back Js bare p q x printed
again_as Is Js bare p q x printed implies b =
    record {
      letters = b.letters;
      head = b.head;
      tail = b.tail;
      encoded = b.encoded;
      begins = b.begins;
      seen = b.seen;
      dark_head = b.dark_head;
      again = λ r rest h apart near.
          let (s, y, j, left, shape) = b.again r rest h apart near in (s, y, implies r s y (subst (λ (l : List ℕ). Near l q.rest) (sym left) near) j, left, shape);
    }

-- ---- an expression without a key begins with no key

-- where no name begins no key stands
no_name : (p : Place) → starts begins_name p ≡ false → is_keyed p ≡ false
no_name p h = ap (λ (b : Bool). b && begins (codes "=") (behind_word p)) h

-- nothing holds together with what doesn't
and_none : (b : Bool) → (b && false) ≡ false
and_none true = refl
and_none false = refl

-- where no sign stands behind the word no key stands
no_sign : (p : Place) → begins (codes "=") (behind_word p) ≡ false → is_keyed p ≡ false
no_sign p h = ap (λ (b : Bool). starts begins_name p && b) h ∙ and_none (starts begins_name p)

-- where a sign comes first no expression begins
sign_by : (b : Bool) (p : Place) → begins (codes "=") p ≡ b → begins_expr p ≡ true → b ≡ false
sign_by false p h g = refl
sign_by true p h g =
    let cell : p.rest ≡ 61 ∷ (next p).rest = first_is p 61 (begins_first 61 [] p h) in
    let none : begins_expr p ≡ false =
    ap (λ (l : List ℕ). passes begins_name (first_in l) || (passes is_quote (first_in l) || (begins_in (codes "(") l || begins_in (codes "/") l))) cell in
    absurd (false≢true (sym none ∙ g))

-- no expression begins with a sign
expr_no_sign : (p : Place) → begins_expr p ≡ true → begins (codes "=") p ≡ false
expr_no_sign p g = sign_by (begins (codes "=") p) p refl g

-- behind an `x` before a quote no sign stands
quoted_word : (quote : Quote) (rest : List ℕ) → begins_in (codes "=") (after (120 ∷ quote_character quote ∷ rest)) ≡ false
quoted_word Single rest = refl
quoted_word Double rest = refl
quoted_word SingleBlock rest = refl
quoted_word DoubleBlock rest = refl

-- a quote begins no name
quote_no_letter : (quote : Quote) → begins_name (quote_character quote) ≡ false
quote_no_letter Single = refl
quote_no_letter Double = refl
quote_no_letter SingleBlock = refl
quote_no_letter DoubleBlock = refl

-- where a quote comes first, or behind an `x`, no key stands
unkeyed_by : (b : Bool) (p : Place) (quote : Quote) → sees 120 p ≡ b → quote_at (if b then next p else p) ≡ Some quote → is_keyed p ≡ false
unkeyed_by true p quote h o =
    let cell : p.rest ≡ 120 ∷ quote_character quote ∷ (next (next p)).rest =
    first_is p 120 (sees_first 120 p h) ∙ ap (λ (l : List ℕ). 120 ∷ l) (first_is (next p) (quote_character quote) (quote_first (next p) quote o)) in
    no_sign p (ap (begins_in (codes "=")) (behind_in p ∙ ap after cell) ∙ quoted_word quote (next (next p)).rest)
unkeyed_by false p quote h o = no_name p (starts_at begins_name p (quote_character quote) (quote_first p quote o) ∙ quote_no_letter quote)

-- where a string stands no key does
unkeyed_string : (p q : Place) (x : StringLiteral) → IsString p q x → is_keyed p ≡ false
unkeyed_string p q x (string m quote written o r u z) = unkeyed_by (sees 120 p) p quote refl o

-- what is not so is false
not_true : (b : Bool) → not b ≡ true → b ≡ false
not_true true h = absurd (false≢true h)
not_true false h = refl

-- behind the word `env` the same is left, whether it is taken as a word or as a name
behind_env : (p m : Place) → IsWord (codes "env") p m → (behind_word p).rest ≡ m.rest
behind_env p m w =
    let (a, b) = and_true (begins (codes "env") p) (not (starts in_name (behind_text (codes "env") p))) w.0 in
    let (rest, made) = front_of (codes "env") p.rest a in
    let left : (behind_text (codes "env") p).rest ≡ rest = behind_front (codes "env") rest p made in
    let stops : passes in_name (first_in rest) ≡ false =
    ap (λ (list : List ℕ). passes in_name (first_in list)) (sym left) ∙ not_true (starts in_name (behind_text (codes "env") p)) b in
    let name : after p.rest ≡ beyond is_blank rest = ap after made ∙ ap (beyond is_blank) (beyond_nothing in_name rest stops) in
    behind_in p ∙ (name ∙ sym (token_left (codes "env") rest p m made (a, w.1)))

module _ (Inner : Rule Expr) where
  -- where a value stands that has no sign behind it, no key stands
  unkeyed_value : (p q : Place) (x : Expr) → IsValue Inner p q x → begins (codes "=") q ≡ false → is_keyed p ≡ false
  unkeyed_value p q x (literal s i z) h = unkeyed_string p q s i
  unkeyed_value p q x (group m n y t i u z) h = no_name p (starts_at begins_name p 40 (token_first 40 [] p m t))
  unkeyed_value p q x (env m n o r key d w t i k u z) h =
      no_sign p (ap (begins_in (codes "=")) (behind_env p m w) ∙ begins_other 40 61 [] m (token_first 40 [] m n t) refl)
  unkeyed_value p q x (variable n s c i z) h = no_sign p (ap (begins (codes "=")) (sym i.1) ∙ h)

  -- where an expression stands that has no sign behind it, no key stands
  unkeyed_level : (p q : Place) (x : Expr) → IsLevel Inner p q x → begins (codes "=") q ≡ false → is_keyed p ≡ false
  unkeyed_level p q x (conditional m n o r s t left right consequent alternative c chained g i a k b d w y z) h =
      no_sign p (expr_no_sign (behind_word p) (and_true (is_word (codes "if") p) (begins_expr (behind_word p)) g).1)
  unkeyed_level p q x (root m y t i z) h = no_name p (starts_at begins_name p 47 (token_first 47 [] p m t))
  unkeyed_level p q x (value g i n k) h = unkeyed_value p q x i h
  unkeyed_level p q x (joined m n a b g v t i z) h = unkeyed_value p m a v (begins_other 47 61 [] m (token_first 47 [] m n t) refl)
  unkeyed_level p q x (concatenated m n a b g v t i z) h = unkeyed_value p m a v (begins_other 43 61 [] m (token_first 43 [] m n t) refl)

-- ---- the text that a string means

-- what a string means it means without its place
to_bare : (x : StringLiteral) (meant : List ℕ) → IsTextOf x meant → IsTextOf (bare_string x) meant
to_bare x meant (raw c z) = raw c z
to_bare x meant (cooked gives c i z) = cooked gives c i z

-- and with it
of_bare : (x : StringLiteral) (meant : List ℕ) → IsTextOf (bare_string x) meant → IsTextOf x meant
of_bare x meant (raw c z) = raw c z
of_bare x meant (cooked gives c i z) = cooked gives c i z

-- strings of the same shape mean the same
same_text : (y x : StringLiteral) (meant : List ℕ) → bare_string y ≡ bare_string x → IsTextOf x meant → IsTextOf y meant
same_text y x meant h i = of_bare y meant (subst (λ (s : StringLiteral). IsTextOf s meant) (sym h) (to_bare x meant i))

-- a string that means a number, as an expression
abbrev IsNumber : Rule Expr
IsNumber p q x = (s : StringLiteral) × (meant : List ℕ) × IsString p q s × IsTextOf s meant × (is_decimal meant ≡ true) × (x ≡ e.Literal s)

-- a string that means a number is printed and read as one
number_back : (p q : Place) (s : StringLiteral) (meant : List ℕ) → IsString p q s → IsTextOf s meant → is_decimal meant ≡ true
    → Back IsNumber bare_expr p q (e.Literal s) (printed_expr (e.Literal s))
number_back p q s meant i means d =
    let b : StringStands p s = string_stands p q s i in
    record {
      letters = b.letters;
      head = b.head;
      tail = b.tail;
      encoded = literal_is s ∙ b.encoded;
      begins = b.begins;
      seen = b.seen;
      dark_head = b.dark_head;
      again = λ r rest h apart near.
          let (o, t, is, left, shape) = b.again r rest h apart in (
            o,
            e.Literal t,
            (t, meant, is, same_text t s meant shape means, d, refl),
            left,
            bare_literal t ∙ (ap (λ (u : StringLiteral). e.Literal u) shape ∙ sym (bare_literal s)),
          );
    }

-- ---- arguments with and without a key

-- an argument without a place
abbrev pub placed : Option Name → Expr → Argument
placed key x = record { key = key; line = 0; column = 0; value = x }

-- an expression by a rule as an argument
abbrev IsUnkeyed : Rule Expr → Rule Argument
IsUnkeyed Is p q x = (y : Expr) × Is p q y × (x ≡ argument_at None p y)

-- a key with this text, and an expression by a rule behind it
abbrev IsKeyed : Rule Expr → List ℕ → Rule Argument
IsKeyed Is key p q x = (m : Place) × (k : Name) × (y : Expr) × IsKey p m k × (k.text ≡ key) × Is m q y × (x ≡ argument_at (Some k) m y)

-- an argument without a key is printed and read as its expression is
unkeyed_back : (Is : Rule Expr) (p q : Place) (y : Expr) → Back Is bare_expr p q y (printed_expr y)
    → Back (IsUnkeyed Is) bare_argument p q (argument_at None p y) (printed_argument (argument_at None p y))
unkeyed_back Is p q y b =
    record {
      letters = b.letters;
      head = b.head;
      tail = b.tail;
      encoded = b.encoded;
      begins = b.begins;
      seen = b.seen;
      dark_head = b.dark_head;
      again = λ r rest h apart near.
          let (s, v, j, left, shape) = b.again r rest h apart near in (s, argument_at None r v, (v, j, refl), left, ap (λ (a : Expr). placed None a) shape);
    }

-- an argument with a key is printed and read with that key, as its expression is
keyed_back : (Is : Rule Expr) (p m q : Place) (k : Name) (y : Expr) → IsKey p m k → Back Is bare_expr m q y (printed_expr y)
    → Back (IsKeyed Is k.text) bare_argument p q (argument_at (Some k) m y) (printed_argument (argument_at (Some k) m y))
keyed_back Is p m q k y (key_sign n i t) b =
    let word : List ℕ = run in_name p.rest in
    let (c, f, cell, is_dark, is_letter) = name_cell p n k i in
    record {
      letters = word ++ (codes "=" ++ b.letters);
      head = c;
      tail = run in_name (next p).rest ++ (codes "=" ++ b.letters);
      encoded = append_assoc k.text (codes "=") (printed_expr y)
          ∙ joined_text k.text (codes "=" ++ printed_expr y) word (codes "=" ++ b.letters) (ap (λ (a : Name). a.text) i.2)
          (joined_text (codes "=") (printed_expr y) (codes "=") b.letters (plain_text (codes "=") refl) b.encoded);
      begins = ap (λ (l : List ℕ). l ++ (codes "=" ++ b.letters)) cell;
      seen = f;
      dark_head = is_dark;
      again = λ r rest h apart near.
          let (is, l1, shape) =
          name_stands p n k i r (codes "=" ++ (b.letters ++ rest)) (h ∙ append_assoc word (codes "=" ++ b.letters) rest) refl in
          let (m2, t2, l2) = token_back (codes "=") (b.letters ++ rest) (behind_word r) l1 in
          let (s, v, j, l3, shape2) = b.again m2 rest (l2 ∙ beyond_dark b.letters b.head b.tail rest b.begins b.dark_head) apart near in (
            s,
            argument_at (Some (name_at r)) m2 v,
            (m2, name_at r, v, key_sign (behind_word r) is t2, ap (λ (a : Name). a.text) shape, j, refl),
            l3,
            ap (λ (a : Name). placed (Some a) (bare_expr v)) shape ∙ ap (λ (a : Expr). placed (Some (bare_name k)) a) shape2,
          );
    }

-- an expression by the rule of expressions
expr_is_back : (p q : Place) (x : Expr) → IsExpr p q x → Back IsExpr bare_expr p q x (printed_expr x)
expr_is_back p q x i =
    again_as (At IsExpr (begins_condition p)) IsExpr bare_expr p q x (printed_expr x) (λ r s y near j. j.1) (expr_back p q x i)

-- ---- options and arguments

-- an argument that is printed and read again by a rule
abbrev ArgumentBack : Rule Argument → Place → Place → Argument → Type 0
ArgumentBack Is p q x = Back Is bare_argument p q x (printed_argument x)

-- a key alone is printed and read as it is
alone_back : (earlier : List Argument) (p q : Place) (k : Name) → IsName p q k → may_have earlier k.text ≡ true → may_stand_alone (key_form k.text) ≡ true
    → begins (codes "=") q ≡ false → ArgumentBack (IsOption earlier) p q (argument_at None p (e.Variable k))
alone_back earlier p q k n m s b =
    let (c, f, cell, is_dark, is_letter) = name_cell p q k n in
    record {
      letters = run in_name p.rest;
      head = c;
      tail = run in_name (next p).rest;
      encoded = variable_is k ∙ ap (λ (a : Name). a.text) n.2;
      begins = cell;
      seen = f;
      dark_head = is_dark;
      again = λ r rest h apart near.
          let (is, left, shape) = name_stands p q k n r rest h apart.0 in
          let same : (name_at r).text ≡ k.text = ap (λ (a : Name). a.text) shape in
          let follows : Near (behind_word r).rest q.rest = subst (λ (l : List ℕ). Near l q.rest) (sym left) near in (
            behind_word r,
            argument_at None r (e.Variable (name_at r)),
            alone (name_at r) is (ap (may_have earlier) same ∙ m) (ap (λ (t : List ℕ). may_stand_alone (key_form t)) same ∙ s)
                (begins_near 61 (behind_word r) q refl refl refl refl follows ∙ b) refl,
            left,
            ap (λ (a : Expr). placed None a) (bare_variable (name_at r) ∙ (ap (λ (u : Name). e.Variable u) shape ∙ sym (bare_variable k))),
          );
    }

-- an option is printed and read as one of its shape
option_back : (earlier : List Argument) (p q : Place) (x : Argument) → IsOption earlier p q x → ArgumentBack (IsOption earlier) p q x
option_back earlier p q x (alone k n m s b z) =
    subst (λ (a : Argument). ArgumentBack (IsOption earlier) p q a) (sym z) (alone_back earlier p q k n m s b)
option_back earlier p q x (valued m k i h t (y, v, z)) =
    let a : Argument = argument_at (Some k) m y in
    subst (λ (a : Argument). ArgumentBack (IsOption earlier) p q a) (sym z)
    (again_as (IsKeyed IsExpr k.text) (IsOption earlier) bare_argument p q a (printed_argument a)
    (λ r s w near (m2, k2, y2, i2, same, v2, z2). valued m2 k2 i2 (ap (may_have earlier) same ∙ h) (ap (λ (u : List ℕ). has_text (key_form u)) same ∙ t) (y2, v2, z2))
    (keyed_back IsExpr p m q k y i (expr_is_back m q y v)))
option_back earlier p q x (number m k s meant i h f j o d z) =
    let a : Argument = argument_at (Some k) m (e.Literal s) in
    subst (λ (a : Argument). ArgumentBack (IsOption earlier) p q a) (sym z)
    (again_as (IsKeyed IsNumber k.text) (IsOption earlier) bare_argument p q a (printed_argument a)
    (λ r s w near (m2, k2, y2, i2, same, (s2, meant2, j2, o2, d2, v2), z2). number m2 k2 s2 meant2 i2 (ap (may_have earlier) same ∙ h)
    (ap key_form same ∙ f) j2 o2 d2 (z2 ∙ ap (λ (v : Expr). argument_at (Some k2) m2 v) v2))
    (keyed_back IsNumber p m q k (e.Literal s) i (number_back m q s meant j o d)))

-- an unknown attribute's argument without a key
any_back : (earlier : List Argument) (p q : Place) (y : Expr) → parts q.rest ≡ true → IsExpr p q y
    → ArgumentBack (IsArgument Open earlier) p q (argument_at None p y)
any_back earlier p q y c v =
    let a : Argument = argument_at None p y in
    let unsigned : begins (codes "=") q ≡ false = begins_one 61 q.rest ∙ parts_test (λ d. d == 61) q.rest refl refl c in
    again_as (IsUnkeyed IsExpr) (IsArgument Open earlier) bare_argument p q a (printed_argument a)
    (λ r s w near (y2, j, z). any refl (unkeyed_level (IsInner 256) r s y2 j (begins_near 61 s q refl refl refl refl near ∙ unsigned)) (y2, j, z))
    (unkeyed_back IsExpr p q y (expr_is_back p q y v))

-- an argument of any form is printed and read as one of its shape
pub argument_back : (form : Form) (earlier : List Argument) (p q : Place) (x : Argument) → parts q.rest ≡ true → IsArgument form earlier p q x
    → Back (IsArgument form earlier) bare_argument p q x (printed_argument x)
argument_back form earlier p q x c (text t (y, v, z)) =
    let a : Argument = argument_at None p y in
    subst (λ (a : Argument). ArgumentBack (IsArgument form earlier) p q a) (sym z)
    (again_as (IsUnkeyed IsExpr) (IsArgument form earlier) bare_argument p q a (printed_argument a) (λ r s w near j. text t j)
    (unkeyed_back IsExpr p q y (expr_is_back p q y v)))
argument_back form earlier p q x c (option f n i) =
    again_as (IsOption (behind_first earlier)) (IsArgument form earlier) bare_argument p q x (printed_argument x) (λ r s w near j. option f n j)
    (option_back (behind_first earlier) p q x i)
argument_back form earlier p q x c (cached m k f i h (y, v, z)) =
    let a : Argument = argument_at (Some k) m y in
    subst (λ (a : Argument). ArgumentBack (IsArgument form earlier) p q a) (sym z)
    (again_as (IsKeyed IsExpr k.text) (IsArgument form earlier) bare_argument p q a (printed_argument a)
    (λ r s w near (m2, k2, y2, i2, same, v2, z2). cached m2 k2 f i2 (ap (may_cache earlier) same ∙ h) (y2, v2, z2))
    (keyed_back IsExpr p m q k y i (expr_is_back m q y v)))
argument_back form earlier p q x c (any f n (y, v, z)) =
    subst (λ (a : Argument). ArgumentBack (IsArgument form earlier) p q a) (sym z)
    (subst (λ (g : Form). ArgumentBack (IsArgument g earlier) p q (argument_at None p y)) (sym f) (any_back earlier p q y c v))
argument_back form earlier p q x c (any_key m k f i (y, v, z)) =
    let a : Argument = argument_at (Some k) m y in
    subst (λ (a : Argument). ArgumentBack (IsArgument form earlier) p q a) (sym z)
    (again_as (IsKeyed IsExpr k.text) (IsArgument form earlier) bare_argument p q a (printed_argument a)
    (λ r s w near (m2, k2, y2, i2, same, v2, z2). any_key m2 k2 f i2 (y2, v2, z2))
    (keyed_back IsExpr p m q k y i (expr_is_back m q y v)))
