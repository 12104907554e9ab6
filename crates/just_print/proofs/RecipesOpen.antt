-- Where the line of a recipe stands, it is a recipe that begins: no other item's sign stands behind its first words.
use Rattle.std.proofs.Common.{◌≡◌, ℕ, ◌==◌, Bool, true, false, ◌&&◌, ◌||◌, if◌then◌else◌, List, [], ◌∷◌, Option, Some, codes, refl, sym, ap, ◌∙◌, subst}
use Rattle.std.proofs.lemmas.Bool.{false≢true, eqb-true}
use Rattle.just_lang_read.specs.Place.{Place, AreMany, next, first, first_in, passes, starts, sees, begins, begins_in, is_empty, is_end}
use Rattle.just_lang_read.proofs.Laws.{starts_at, starts_with, sees_first, first_is}
use Rattle.just_lang_syntax.specs.declared.ast.Attribute.{Attribute}
use Rattle.just_lang_syntax.specs.declared.ast.Expr.{Expr}
use Rattle.just_lang_syntax.specs.declared.ast.AstParameter.{AstParameter}
use Rattle.just_lang_syntax.specs.declared.ast.AstDependency.{AstDependency}
use Rattle.just_lang_syntax.specs.declared.ast.AstRecipe.{AstRecipe}
use Rattle.just_lang_syntax.specs.declared.item.Opening.TheVariants as opening
use Rattle.just_lang_read.specs.Characters.{is_blank, begins_name, in_name, is_quote}
use Rattle.just_lang_read.specs.Lines.{crlf, behind_word, is_word, is_rest, IsToken}
use Rattle.just_lang_syntax.specs.Places.{IsRest}
use Rattle.just_lang_syntax.specs.Places.IsPath.{names}
use Rattle.just_lang_read.specs.Quotes.{begins_string}
use Rattle.just_lang_syntax.specs.Recipes.{IsMaybe, IsDefault, IsParameter, IsVariadic, IsSingular, AreParameters, IsDependency, AreDependencies, AreSubsequents, IsRecipeLine}
use Rattle.just_lang_syntax.specs.Items.{is_assignment, is_last_name, is_module, opening_at, opens_module}
use Rattle.just_print.proofs.Places.{beyond, past_rest, begins_one, closes, not_that, dark}
use Rattle.just_print.proofs.WordsBack.{begins_other, token_first}
use Rattle.just_print.proofs.OutsideBack.{after, behind_in}
use Rattle.just_print.proofs.RecipesBack.{rest_first}

-- ---- what isn't seen behind a run isn't seen before it

-- one character before what isn't seen behind a run
not_before_by : (b : Bool) (t u : ℕ → Bool) (c : ℕ) (list : List ℕ) → t c ≡ b → ((d : ℕ) → t d ≡ true → u d ≡ false)
    → passes t (first_in (beyond u (c ∷ list))) ≡ false → b ≡ false
not_before_by true t u c list h k e =
    let stops : beyond u (c ∷ list) ≡ c ∷ list = rw (k c h) refl in
    sym h ∙ (ap (λ (l : List ℕ). passes t (first_in l)) (sym stops) ∙ e)
not_before_by false t u c list h k e = refl

-- where the run holds no character that passes the test, and none passes behind it, none passes before it
not_before : (t u : ℕ → Bool) (list : List ℕ) → ((d : ℕ) → t d ≡ true → u d ≡ false) → passes t (first_in (beyond u list)) ≡ false → passes t (first_in list) ≡ false
not_before t u [] k e = refl
not_before t u (c ∷ list) k e = not_before_by (t c) t u c list refl k e

-- a quote by the sign that it is
quote_by : (a b : Bool) (c : ℕ) → (c == 39) ≡ a → (c == 34) ≡ b → (a || b) ≡ true → in_name c ≡ false
quote_by true b c h k e = ap in_name (eqb-true c 39 h)
quote_by false true c h k e = ap in_name (eqb-true c 34 k)
quote_by false false c h k e = absurd (false≢true e)

-- a quote is no part of a name
quote_outside : (c : ℕ) → is_quote c ≡ true → in_name c ≡ false
quote_outside c h = quote_by (c == 39) (c == 34) c refl refl h

-- ---- behind the colon

-- no `=` stands where a dependency does
dependency_sign : (p q : Place) (x : AstDependency) → IsDependency p q x → sees 61 p ≡ false
dependency_sign p q x (IsDependency.bare path (names m n others k are e z) w) =
    let (c, f, t) = starts_with begins_name p k.0 in starts_at (λ d. d == 61) p c f ∙ not_that begins_name c 61 t refl
dependency_sign p q x (IsDependency.grouped m n o path arguments t i are u z) = starts_at (λ d. d == 61) p 40 (token_first 40 [] p m t)

-- nor where subsequents or the end of the line do
subsequents_sign : (p t q : Place) (xs : List AstDependency) (comment : Option (List ℕ)) → AreSubsequents p t xs → IsRest t q comment → sees 61 p ≡ false
subsequents_sign p t q xs comment (AreSubsequents.none n e z) w = ap (sees 61) (sym e) ∙ rest_first (λ d. d == 61) t q comment refl refl refl w
subsequents_sign p t q xs comment (AreSubsequents.some m k b d) w = starts_at (λ d. d == 61) p 38 (token_first 38 (38 ∷ []) p m k)

-- nor behind the colon
behind_sign : (r s t q : Place) (priors subsequents : List AstDependency) (comment : Option (List ℕ)) → AreDependencies r s priors → AreSubsequents s t subsequents
    → IsRest t q comment → sees 61 r ≡ false
behind_sign r s t q [] subsequents comment (AreDependencies.dependencies e n) v w = ap (sees 61) (sym e) ∙ subsequents_sign s t q subsequents comment v w
behind_sign r s t q (x ∷ priors) subsequents comment (AreDependencies.dependencies (k, i, are) n) v w = dependency_sign r k x i

-- a colon that no `=` follows is no sign of an assignment
colon_alone : (o r : Place) → IsToken (codes ":") o r → sees 61 r ≡ false → begins (codes ":=") o ≡ false
colon_alone o r u k =
    let from : o.rest ≡ 58 ∷ (next o).rest = first_is o 58 (token_first 58 [] o r u) in
    let left : r.rest ≡ beyond is_blank (next o).rest = ap (λ (s : Place). s.rest) u.1 ∙ past_rest is_blank (next o) in
    let none_there : passes (λ d. d == 61) (first_in (next o).rest) ≡ false =
    not_before (λ d. d == 61) is_blank (next o).rest (λ d e. dark (λ x. x == 61) d e refl refl)
    (ap (λ (l : List ℕ). passes (λ d. d == 61) (first_in l)) (sym left) ∙ k) in
    ap (begins_in (codes ":=")) from ∙ (begins_one 61 (next o).rest ∙ none_there)

-- ---- from the name to the colon

-- the signs of parameters
abbrev is_mark : ℕ → Bool
is_mark c = c == 36 || (c == 42 || (c == 43 || c == 61))

-- what stands from a place to the colon: the colon, a sign, or a name and what stands behind it
data Signature : Place → Type 0 where
  colon : (p : Place) → first p ≡ Some 58 → begins (codes ":=") p ≡ false → Signature p
  marked : (p : Place) (c : ℕ) → first p ≡ Some c → is_mark c ≡ true → Signature p
  named : (p : Place) → starts begins_name p ≡ true → Signature (behind_word p) → Signature p

-- what stands from the last parameter on
variadic_signature : (m o : Place) (last : Option AstParameter) → IsVariadic m o last → Signature o → Signature m
variadic_signature m o last (IsVariadic.star n y t i z) g = marked m 42 (token_first 42 [] m n t) refl
variadic_signature m o last (IsVariadic.plus n y t i z) g = marked m 43 (token_first 43 [] m n t) refl
variadic_signature m o last (IsVariadic.none a b e z) g = subst Signature e g

-- what stands behind a parameter's name
default_signature : (n k : Place) (x : Option Expr) → IsDefault n k x → Signature k → Signature n
default_signature n k x (IsDefault.default m y t i z) g = marked n 61 (token_first 61 [] n m t) refl
default_signature n k x (IsDefault.without b e z) g = subst Signature e g

-- what stands from the parameters on that take one value
singulars_signature : (p m : Place) (xs : List AstParameter) → AreMany IsSingular p m xs → Signature m → Signature p
singulars_signature p m [] e g = subst Signature e g
singulars_signature p m (x ∷ xs) (k, (b, IsParameter.parameter n r export name d (IsMaybe.here t y) i u z), are) g = marked p 36 (token_first 36 [] p n t) refl
singulars_signature p m (x ∷ xs) (k, (b, IsParameter.parameter n r export name d (IsMaybe.not_here a e y) i u z), are) g =
    let others : Signature k = singulars_signature k m xs are g in
    subst Signature e (named n i.0 (subst Signature i.1 (default_signature r k d u others)))

-- what stands from the parameters of a recipe on
signature_at : (n o : Place) (xs : List AstParameter) → AreParameters n o xs → first o ≡ Some 58 → begins (codes ":=") o ≡ false → Signature n
signature_at n o xs (AreParameters.parameters m singular last are b v z) f s = singulars_signature n m singular are (variadic_signature m o last v (colon o f s))

-- ---- no other item's sign stands there

-- a sign of parameters by the one that it is
mark_by : (a b d : Bool) (c : ℕ) (t : ℕ → Bool) → (c == 36) ≡ a → (c == 42) ≡ b → (c == 43) ≡ d → is_mark c ≡ true → t 36 ≡ false → t 42 ≡ false → t 43 ≡ false → t 61 ≡ false
    → t c ≡ false
mark_by true b d c t h k l e v w x y = ap t (eqb-true c 36 h) ∙ v
mark_by false true d c t h k l e v w x y = ap t (eqb-true c 42 k) ∙ w
mark_by false false true c t h k l e v w x y = ap t (eqb-true c 43 l) ∙ x
mark_by false false false c t h k l e v w x y = ap t (eqb-true c 61 (rw (h, k, l) at e)) ∙ y

-- a sign of parameters passes no test that none of them passes
mark_test : (c : ℕ) (t : ℕ → Bool) → is_mark c ≡ true → t 36 ≡ false → t 42 ≡ false → t 43 ≡ false → t 61 ≡ false → t c ≡ false
mark_test c t e v w x y = mark_by (c == 36) (c == 42) (c == 43) c t refl refl refl e v w x y

-- no character stands there that is neither a sign of parameters nor a colon nor part of a name
signature_test : (p : Place) (t : ℕ → Bool) → Signature p → t 36 ≡ false → t 42 ≡ false → t 43 ≡ false → t 61 ≡ false → t 58 ≡ false
    → ((c : ℕ) → begins_name c ≡ true → t c ≡ false) → starts t p ≡ false
signature_test p t (colon _ f s) a b c d e k = starts_at t p 58 f ∙ e
signature_test p t (marked _ x f m) a b c d e k = starts_at t p x f ∙ mark_test x t m a b c d
signature_test p t (named _ n g) a b c d e k = let (x, f, l) = starts_with begins_name p n in starts_at t p x f ∙ k x l

-- behind a name the same
behind_named : (p : Place) → Signature p → starts begins_name p ≡ true → Signature (behind_word p)
behind_named p (colon _ f s) h = absurd (false≢true (sym (starts_at begins_name p 58 f) ∙ h))
behind_named p (marked _ c f m) h = absurd (false≢true (sym (mark_test c begins_name m refl refl refl refl) ∙ (sym (starts_at begins_name p c f) ∙ h)))
behind_named p (named _ n g) h = g

-- no quote stands there
signature_quote : (p : Place) → Signature p → starts is_quote p ≡ false
signature_quote p g = signature_test p is_quote g refl refl refl refl refl (λ c h. quote_no_letter c h)
  where
    -- a letter is no quote
    quote_no_letter : (c : ℕ) → begins_name c ≡ true → is_quote c ≡ false
    quote_no_letter c h = rw (not_that begins_name c 39 h refl, not_that begins_name c 34 h refl) refl

-- nor a string, with an `x` in front or without it
signature_string : (p : Place) → Signature p → begins_string p ≡ false
signature_string p g = string_by (sees 120 p) p g refl
  where
    -- by whether an `x` stands there
    string_by : (b : Bool) (p : Place) → Signature p → sees 120 p ≡ b → starts is_quote (if b then next p else p) ≡ false
    string_by true p g h =
        let f : first p ≡ Some 120 = sees_first 120 p h in
        let more : List ℕ = (next p).rest in
        let behind : starts is_quote (behind_word p) ≡ false = signature_quote (behind_word p) (behind_named p g (starts_at begins_name p 120 f)) in
        let left : (behind_word p).rest ≡ after (120 ∷ more) = behind_in p ∙ ap after (first_is p 120 f) in
        let unquoted : passes is_quote (first_in (beyond is_blank (beyond in_name more))) ≡ false = ap (λ (l : List ℕ). passes is_quote (first_in l)) (sym left) ∙ behind in
        not_before is_quote in_name more quote_outside
        (not_before is_quote is_blank (beyond in_name more) (λ d e. dark is_quote d e refl refl) unquoted)
    string_by false p g h = signature_quote p g

-- nor a `?`
signature_question : (p : Place) → Signature p → begins (codes "?") p ≡ false
signature_question p g = begins_one 63 p.rest ∙ signature_test p (λ d. d == 63) g refl refl refl refl refl (λ c h. not_that begins_name c 63 h refl)

-- nor `:=`
signature_assigns : (p : Place) → Signature p → begins (codes ":=") p ≡ false
signature_assigns p (colon _ f s) = s
signature_assigns p (marked _ c f m) = begins_other c 58 (codes "=") p f (mark_test c (λ d. d == 58) m refl refl refl refl)
signature_assigns p (named _ n g) = let (c, f, l) = starts_with begins_name p n in begins_other c 58 (codes "=") p f (not_that begins_name c 58 l refl)

-- a text with a first character isn't empty
none_empty : (list : List ℕ) (c : ℕ) → first_in list ≡ Some c → is_empty list ≡ false
none_empty [] c h = absurd (let no : ⊥ = cc (h) in no)
none_empty (d ∷ list) c h = refl

-- nor the end of the line
signature_rest : (p : Place) → Signature p → is_rest p ≡ false
signature_rest p g =
    let (c, f) = signature_first p g in
    let hash : sees 35 p ≡ false = signature_test p (λ d. d == 35) g refl refl refl refl refl (λ x h. not_that begins_name x 35 h refl) in
    let ends : is_end p ≡ false = none_empty p.rest c f in
    let feed : sees 10 p ≡ false = signature_test p (λ d. d == 10) g refl refl refl refl refl (λ x h. not_that begins_name x 10 h refl) in
    let return_there : sees 13 p ≡ false = signature_test p (λ d. d == 13) g refl refl refl refl refl (λ x h. not_that begins_name x 13 h refl) in
    let returned : begins crlf p ≡ false = begins_other c 13 (10 ∷ []) p f (sym (starts_at (λ d. d == 13) p c f) ∙ return_there) in
    rw (hash, ends, feed, returned) refl
  where
    -- a character stands there
    signature_first : (p : Place) → Signature p → (c : ℕ) × (first p ≡ Some c)
    signature_first p (colon _ f s) = (58, f)
    signature_first p (marked _ c f m) = (c, f)
    signature_first p (named _ n g) = let (c, f, l) = starts_with begins_name p n in (c, f)

-- two tests are false where the second is false behind the first
and_by : (b c : Bool) → (b ≡ true → c ≡ false) → (b && c) ≡ false
and_by true c k = k refl
and_by false c k = refl

-- nor a name and the sign of an assignment
signature_assignment : (p : Place) → Signature p → is_assignment p ≡ false
signature_assignment p g = and_by (starts begins_name p) (begins (codes ":=") (behind_word p)) (λ h. signature_assigns (behind_word p) (behind_named p g h))

-- nor a name and the end of the line
signature_last : (p : Place) → Signature p → is_last_name p ≡ false
signature_last p g = and_by (starts begins_name p) (is_rest (behind_word p)) (λ h. signature_rest (behind_word p) (behind_named p g h))

-- nor what follows the word of a module
signature_module : (p : Place) → Signature p → is_module p ≡ false
signature_module p g =
    let named_file : (starts begins_name p && (begins_string (behind_word p) || is_rest (behind_word p))) ≡ false =
    and_by (starts begins_name p) (begins_string (behind_word p) || is_rest (behind_word p)) (λ h. neither (behind_word p) (behind_named p g h)) in
    rw (signature_question p g, named_file) refl
  where
    -- neither a string nor the end of the line
    neither : (q : Place) → Signature q → (begins_string q || is_rest q) ≡ false
    neither q g = rw (signature_string q g, signature_rest q g) refl

-- ---- the line of a recipe

-- a test and what is false are false
never : (a b : Bool) → b ≡ false → (a && b) ≡ false
never true b h = h
never false b h = refl

-- behind its name
line_signature : (attributes : List Attribute) (p q : Place) (x : AstRecipe) → IsRecipeLine attributes p q x → (m : Place) × (b : Bool) × IsMaybe (codes "@") p m b
    × (starts begins_name m ≡ true) × Signature (behind_word m)
line_signature attributes p q x (IsRecipeLine.line m n o r s t quiet name parameters priors subsequents comment a k g u d v w z) =
    let sign : begins (codes ":=") o ≡ false = colon_alone o r u (behind_sign r s t q priors subsequents comment d v w) in
    (m, quiet, a, k.0, subst Signature k.1 (signature_at n o parameters g (token_first 58 [] o r u) sign))

-- behind no item's word stands what the item would ask
named_opens : (p : Place) → starts begins_name p ≡ true → Signature (behind_word p) → (opening_at p ≡ opening.Recipe) × (opens_module p ≡ false)
named_opens p n g =
    let q : Place = behind_word p in
    let (c, f, l) = starts_with begins_name p n in
    let hash : sees 35 p ≡ false = starts_at (λ d. d == 35) p c f ∙ not_that begins_name c 35 l refl in
    let unsigned : is_assignment p ≡ false = never (starts begins_name p) (begins (codes ":=") q) (signature_assigns q g) in
    let no_value : (is_assignment q || is_last_name q) ≡ false = rw (signature_assignment q g, signature_last q g) refl in
    let no_file : (begins (codes "?") q || begins_string q) ≡ false = rw (signature_question q g, signature_string q g) refl in
    let no_alias : (is_word (codes "alias") p && is_assignment q) ≡ false = never (is_word (codes "alias") p) (is_assignment q) (signature_assignment q g) in
    let no_export : (is_word (codes "export") p && is_assignment q) ≡ false = never (is_word (codes "export") p) (is_assignment q) (signature_assignment q g) in
    let no_unexport : (is_word (codes "unexport") p && is_last_name q) ≡ false = never (is_word (codes "unexport") p) (is_last_name q) (signature_last q g) in
    let no_import : (is_word (codes "import") p && (begins (codes "?") q || begins_string q)) ≡ false =
    never (is_word (codes "import") p) (begins (codes "?") q || begins_string q) no_file in
    let no_module : opens_module p ≡ false = never (is_word (codes "mod") p) (is_module q) (signature_module q g) in
    let no_setting : (is_word (codes "set") p && (is_assignment q || is_last_name q)) ≡ false = never (is_word (codes "set") p) (is_assignment q || is_last_name q) no_value in
    (rw (hash, unsigned, no_alias, no_export, no_unexport, no_import, no_module, no_setting) refl, no_module)

-- `@` or a bracket begins a recipe
other_opens : (c : ℕ) (p : Place) → first p ≡ Some c → (c == 35) ≡ false → begins_name c ≡ false → (c == 97) ≡ false → (c == 101) ≡ false → (c == 117) ≡ false → (c == 105) ≡ false
    → (c == 109) ≡ false → (c == 115) ≡ false → (opening_at p ≡ opening.Recipe) × (opens_module p ≡ false)
other_opens c p f h n a e u i m s =
    let hash : sees 35 p ≡ false = starts_at (λ d. d == 35) p c f ∙ h in
    let letter : starts begins_name p ≡ false = starts_at begins_name p c f ∙ n in
    let no_alias : begins (codes "alias") p ≡ false = begins_other c 97 (codes "lias") p f a in
    let no_export : begins (codes "export") p ≡ false = begins_other c 101 (codes "xport") p f e in
    let no_unexport : begins (codes "unexport") p ≡ false = begins_other c 117 (codes "nexport") p f u in
    let no_import : begins (codes "import") p ≡ false = begins_other c 105 (codes "mport") p f i in
    let no_module : begins (codes "mod") p ≡ false = begins_other c 109 (codes "od") p f m in
    let no_set : begins (codes "set") p ≡ false = begins_other c 115 (codes "et") p f s in
    (rw (hash, letter, no_alias, no_export, no_unexport, no_import, no_module, no_set) refl, rw no_module refl)

-- where a bracket stands, it is a recipe that begins, or a module behind attributes
pub bracket_opens : (p : Place) → first p ≡ Some 91 → opening_at p ≡ opening.Recipe
bracket_opens p f = (other_opens 91 p f refl refl refl refl refl refl refl refl).0

-- with an `@` in front or without it
maybe_opens : (p m : Place) (b : Bool) → IsMaybe (codes "@") p m b → starts begins_name m ≡ true → Signature (behind_word m)
    → (opening_at p ≡ opening.Recipe) × (opens_module p ≡ false)
maybe_opens p m b (IsMaybe.here t z) n g = other_opens 64 p (token_first 64 [] p m t) refl refl refl refl refl refl refl refl
maybe_opens p m b (IsMaybe.not_here a e z) n g = subst (λ (r : Place). (opening_at r ≡ opening.Recipe) × (opens_module r ≡ false)) e (named_opens m n g)

-- where the line of a recipe stands, it is a recipe that begins, and no module behind attributes
pub line_opens : (attributes : List Attribute) (p q : Place) (x : AstRecipe) → IsRecipeLine attributes p q x → (opening_at p ≡ opening.Recipe) × (opens_module p ≡ false)
line_opens attributes p q x i = let (m, b, a, n, g) = line_signature attributes p q x i in maybe_opens p m b a n g

-- a recipe's line begins with `@` or a letter: it neither ends there nor has a bracket in front
pub line_first : (attributes : List Attribute) (p q : Place) (x : AstRecipe) → IsRecipeLine attributes p q x
    → (c : ℕ) × (first p ≡ Some c) × (closes (c ∷ []) ≡ false) × ((c == 91) ≡ false)
line_first attributes p q x i = let (m, b, a, n, g) = line_signature attributes p q x i in first_by p m b a n
  where
    -- by whether an `@` stands there
    first_by : (p m : Place) (b : Bool) → IsMaybe (codes "@") p m b → starts begins_name m ≡ true → (c : ℕ) × (first p ≡ Some c) × (closes (c ∷ []) ≡ false) × ((c == 91) ≡ false)
    first_by p m b (IsMaybe.here t z) n = (64, token_first 64 [] p m t, refl, refl)
    first_by p m b (IsMaybe.not_here a e z) n =
        let (c, f, l) = starts_with begins_name m n in
        (c, ap first (sym e) ∙ f, rw (not_that begins_name c 10 l refl, not_that begins_name c 13 l refl) refl, not_that begins_name c 91 l refl)

-- the line of a recipe has the attributes in front of it
pub line_attributes : (attributes : List Attribute) (p q : Place) (x : AstRecipe) → IsRecipeLine attributes p q x → x.attributes ≡ attributes
line_attributes attributes p q x (IsRecipeLine.line m n o r s t quiet name parameters priors subsequents comment a k g u d v w z) = ap (λ (y : AstRecipe). y.attributes) z
