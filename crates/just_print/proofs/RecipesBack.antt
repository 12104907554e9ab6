-- What is printed of the line of a recipe is read again.
use Rattle.std.proofs.Common.{◌≡◌, ℕ, ◌==◌, Bool, true, false, ◌||◌, List, [], ◌∷◌, ◌++◌, map, Option, Some, codes, encode_utf8_all, refl, sym, ap, ◌∙◌, subst, append_assoc}
use Rattle.std.proofs.lemmas.Bool.{false≢true}
use Rattle.just_lang_read.specs.Place.{Place, next, run, first, first_in, passes, starts, begins, begins_in}
use Rattle.just_lang_read.proofs.Laws.{sees_first, starts_at}
use Rattle.just_lang_syntax.specs.declared.ast.Name.{Name}
use Rattle.just_lang_syntax.specs.declared.ast.Attribute.{Attribute}
use Rattle.just_lang_syntax.specs.declared.ast.AstParameter.{AstParameter}
use Rattle.just_lang_syntax.specs.declared.ast.AstDependency.{AstDependency}
use Rattle.just_lang_syntax.specs.declared.ast.AstRecipe.{AstRecipe}
use Rattle.just_lang_read.specs.Characters.{is_blank, begins_name, in_name}
use Rattle.just_lang_read.specs.Lines.{behind_word, IsToken}
use Rattle.just_lang_syntax.specs.Places.{name_at, IsRest}
use Rattle.just_lang_syntax.specs.Places.IsRest.{ended, commented}
use Rattle.just_lang_syntax.specs.Recipes.{begins_dependency, AreDependencies, AreSubsequents, IsRecipeLine}
use Rattle.just_lang_syntax.specs.Recipes.AreDependencies.{dependencies}
use Rattle.just_lang_syntax.specs.Recipes.AreSubsequents.{none, some}
use Rattle.just_lang_syntax.specs.Recipes.IsRecipeLine.{line}
use Rattle.just_print.specs.Printed.{only_if, printed_end, printed_parameters, printed_dependencies, printed_subsequents, printed_recipe_line}
use Rattle.just_print.specs.Shapes.{bare_name, bare_attribute, bare_parameter, bare_dependency, bare_recipe}
use Rattle.just_print.proofs.Places.{beyond, not_that, begins_one, Alike, one_first, alike_test, closes_test, token_back}
use Rattle.just_print.proofs.NamesBack.{name_stands}
use Rattle.just_print.proofs.PathsBack.{name_cell}
use Rattle.just_print.proofs.WordsBack.{joined_text, plain_text, token_first}
use Rattle.just_print.proofs.LinesBack.{newline_closes, EndBack, end_back}
use Rattle.just_print.proofs.ParametersBack.{maybe_here, maybe_first, ParametersBack, parameters_back}
use Rattle.just_print.proofs.DependenciesBack.{Follows, AllBack, dependencies_back}

-- ---- what ends an item's line

-- no character stands there that neither ends a line nor begins a comment
pub rest_first : (t : ℕ → Bool) (p q : Place) (comment : Option (List ℕ)) → t 10 ≡ false → t 13 ≡ false → t 35 ≡ false → IsRest p q comment → starts t p ≡ false
rest_first t p q comment a b c (ended n z) = closes_test t p.rest a b (newline_closes p q n)
rest_first t p q comment a b c (commented text i z) = starts_at t p 35 (sees_first 35 p i.0) ∙ c

-- where a character isn't first, no text begins with it
pub begins_not : (c : ℕ) (text list : List ℕ) → passes (λ d. d == c) (first_in list) ≡ false → begins_in (c ∷ text) list ≡ false
begins_not c text [] h = refl
begins_not c text (d ∷ list) h = rw h refl

-- what is printed there follows a dependency
pub end_follows : (p q : Place) (comment : Option (List ℕ)) (i : IsRest p q comment) (rest : List ℕ) → Follows ((end_back p q comment i).letters ++ rest) p
end_follows p q comment i rest =
    let E : EndBack p comment = end_back p q comment i in
    record {
      apart = E.apart rest;
      alike = E.alike rest;
      no_path = begins_not 58 (58 ∷ []) (beyond is_blank (E.letters ++ rest))
          (alike_test (λ d. d == 58) (beyond is_blank (E.letters ++ rest)) p.rest refl refl (E.alike rest) ∙ rest_first (λ d. d == 58) p q comment refl refl refl i);
    }

-- ---- subsequents

pub record SubsequentsBack (s : Place) (xs : List AstDependency) (end : List ℕ) : Type 0 where
  pub letters : List ℕ
  pub encoded : printed_subsequents xs ≡ encode_utf8_all letters
  pub follows : (rest : List ℕ) → Follows (letters ++ (end ++ rest)) s
  pub again : (r : Place) (rest : List ℕ) → r.rest ≡ beyond is_blank (letters ++ (end ++ rest))
      → (t : Place) × (ys : List AstDependency) × AreSubsequents r t ys × (t.rest ≡ beyond is_blank (end ++ rest)) × (map bare_dependency ys ≡ map bare_dependency xs)

no_subsequents : (p t q : Place) (comment : Option (List ℕ)) (i : IsRest t q comment) → t ≡ p → SubsequentsBack p [] (end_back t q comment i).letters
no_subsequents p t q comment i e =
    let E : EndBack t comment = end_back t q comment i in
    record {
      letters = [];
      encoded = refl;
      follows = λ rest. subst (λ (r : Place). Follows (E.letters ++ rest) r) e (end_follows t q comment i rest);
      again = λ r rest h.
          let no_sign : begins (codes "&&") r ≡ false =
          begins_not 38 (38 ∷ []) r.rest (ap (λ (l : List ℕ). passes (λ d. d == 38) (first_in l)) h
          ∙ (alike_test (λ d. d == 38) (beyond is_blank (E.letters ++ rest)) t.rest refl refl (E.alike rest) ∙ rest_first (λ d. d == 38) t q comment refl refl refl i)) in
          (r, [], none no_sign refl refl, h, refl);
    }

some_printed : (m q : Place) (xs : List AstDependency) → begins_dependency m ≡ true → AreDependencies m q xs → printed_subsequents xs ≡ codes " &&" ++ printed_dependencies xs
some_printed m q [] b (dependencies e n) = absurd (false≢true (sym n ∙ (ap begins_dependency e ∙ b)))
some_printed m q (x ∷ xs) b i = refl

same_begin : (m2 m : Place) → Alike m2.rest m.rest → begins_dependency m2 ≡ begins_dependency m
same_begin m2 m a =
    ap (λ (b : Bool). b || starts begins_name m2) (begins_one 40 m2.rest ∙ (alike_test (λ d. d == 40) m2.rest m.rest refl refl a ∙ sym (begins_one 40 m.rest)))
    ∙ ap (λ (b : Bool). begins (codes "(") m || b) (alike_test begins_name m2.rest m.rest refl refl a)

first_alike : (p m : Place) → IsToken (codes "&&") p m → (more : List ℕ) → Alike (38 ∷ 38 ∷ more) p.rest
first_alike p m k more = one_first (sym (token_first 38 (38 ∷ []) p m k))

some_subsequents : (p m t q : Place) (xs : List AstDependency) (comment : Option (List ℕ)) (i : IsRest t q comment) → IsToken (codes "&&") p m → begins_dependency m ≡ true
    → AreDependencies m t xs → SubsequentsBack p xs (end_back t q comment i).letters
some_subsequents p m t q xs comment i k b d =
    let E : EndBack t comment = end_back t q comment i in
    let D : AllBack m t xs = dependencies_back m t xs d in
    record {
      letters = codes " &&" ++ D.letters;
      encoded = some_printed m t xs b d ∙ joined_text (codes " &&") (printed_dependencies xs) (codes " &&") D.letters (plain_text (codes " &&") refl) D.encoded;
      follows = λ rest. record { apart = (refl, refl); alike = first_alike p m k (D.letters ++ (E.letters ++ rest)); no_path = refl };
      again = λ r rest h.
          let f : Follows (E.letters ++ rest) t = end_follows t q comment i rest in
          let (m2, k2, l1) = token_back (codes "&&") (D.letters ++ (E.letters ++ rest)) r h in
          let same : Alike m2.rest m.rest = subst (λ (l : List ℕ). Alike l m.rest) (sym l1) (D.follows (E.letters ++ rest) f).alike in
          let (t2, ys, j, l2, shapes) = D.again m2 (E.letters ++ rest) l1 f in
          (t2, ys, some m2 k2 (same_begin m2 m same ∙ b) j, l2, shapes);
    }

subsequents_back : (p t q : Place) (xs : List AstDependency) (comment : Option (List ℕ)) (i : IsRest t q comment) → AreSubsequents p t xs
    → SubsequentsBack p xs (end_back t q comment i).letters
subsequents_back p t q xs comment i (none n e z) =
    subst (λ (ys : List AstDependency). SubsequentsBack p ys (end_back t q comment i).letters) (sym z) (no_subsequents p t q comment i e)
subsequents_back p t q xs comment i (some m k b d) = some_subsequents p m t q xs comment i k b d

-- ---- the line

abbrev pub line_of : List Attribute → Bool → Name → List AstParameter → List AstDependency → List AstDependency → Option (List ℕ) → AstRecipe
line_of attributes quiet name parameters priors subsequents comment =
    record { attributes = attributes; quiet = quiet; name = name; parameters = parameters; priors = priors; subsequents = subsequents; comment = comment; body = [] }

only_at : (b : Bool) → only_if b (codes "@") ≡ encode_utf8_all (only_if b (codes "@"))
only_at true = plain_text (codes "@") refl
only_at false = refl

-- the line of a recipe is printed and read as it is, behind attributes of the same shape
pub record RecipeLineBack (attributes : List Attribute) (p : Place) (x : AstRecipe) : Type 0 where
  pub letters : List ℕ
  pub head : ℕ
  pub tail : List ℕ
  pub encoded : printed_recipe_line x ≡ encode_utf8_all letters
  pub begins : letters ≡ head ∷ tail
  pub seen : first p ≡ Some head
  pub dark_head : is_blank head ≡ false
  pub again : (others : List Attribute) → map bare_attribute others ≡ map bare_attribute attributes → (r : Place) (rest : List ℕ) → r.rest ≡ letters ++ rest
      → (s : Place) × (y : AstRecipe) × IsRecipeLine others r s y × (s.rest ≡ rest) × (bare_recipe y ≡ bare_recipe x)

-- the line of a recipe is printed and read as it is
pub recipe_line_back : (attributes : List Attribute) (p q : Place) (x : AstRecipe) → IsRecipeLine attributes p q x → RecipeLineBack attributes p x
recipe_line_back attributes p q x (line m n o r s t quiet name parameters priors subsequents comment a k g u d v w z) =
    let P : ParametersBack n parameters = parameters_back n o parameters g (token_first 58 [] o r u) in
    let D : AllBack r s priors = dependencies_back r s priors d in
    let E : EndBack t comment = end_back t q comment w in
    let S : SubsequentsBack s subsequents E.letters = subsequents_back s t q subsequents comment w v in
    let word : List ℕ = run in_name m.rest in
    let (c, f, cell, is_dark, is_letter) = name_cell m n name k in
    let (head, tails, firsts, dark_one) = maybe_first 64 c p m quiet a f refl is_dark in
    let at : List ℕ = only_if quiet (codes "@") in
    let ends : List ℕ = S.letters ++ E.letters in
    let behind : List ℕ = codes ":" ++ (D.letters ++ ends) in
    let (tail, begins_so) = tails (run in_name (next m).rest ++ (P.letters ++ behind)) in
    let end_text : List ℕ = printed_subsequents subsequents ++ printed_end comment in
    let behind_text : List ℕ = codes ":" ++ (printed_dependencies priors ++ end_text) in
    let moved : (at ++ (name.text ++ printed_parameters parameters)) ++ behind_text ≡ at ++ (name.text ++ (printed_parameters parameters ++ behind_text)) =
    append_assoc at (name.text ++ printed_parameters parameters) behind_text ∙ ap (λ (l : List ℕ). at ++ l) (append_assoc name.text (printed_parameters parameters) behind_text) in
    record {
      letters = at ++ (word ++ (P.letters ++ behind));
      head = head;
      tail = tail;
      encoded = ap printed_recipe_line z ∙ (moved
          ∙ joined_text at (name.text ++ (printed_parameters parameters ++ behind_text)) at (word ++ (P.letters ++ behind)) (only_at quiet)
          (joined_text name.text (printed_parameters parameters ++ behind_text) word (P.letters ++ behind) (ap (λ (b : Name). b.text) k.2)
          (joined_text (printed_parameters parameters) behind_text P.letters behind P.encoded
          (joined_text (codes ":") (printed_dependencies priors ++ end_text) (codes ":") (D.letters ++ ends) (plain_text (codes ":") refl)
          (joined_text (printed_dependencies priors) end_text D.letters ends D.encoded
          (joined_text (printed_subsequents subsequents) (printed_end comment) S.letters E.letters S.encoded E.encoded))))));
      begins = ap (λ (l : List ℕ). at ++ (l ++ (P.letters ++ behind))) cell ∙ begins_so;
      seen = firsts;
      dark_head = dark_one;
      again = λ others same r0 rest h.
          let r3 : List ℕ = S.letters ++ (E.letters ++ rest) in
          let r2 : List ℕ = D.letters ++ r3 in
          let r1 : List ℕ = P.letters ++ (codes ":" ++ r2) in
          let spread : r0.rest ≡ at ++ (word ++ r1) =
          h ∙ (append_assoc at (word ++ (P.letters ++ behind)) rest
          ∙ ap (λ (l : List ℕ). at ++ l) (append_assoc word (P.letters ++ behind) rest
          ∙ ap (λ (l : List ℕ). word ++ l) (append_assoc P.letters behind rest
          ∙ ap (λ (l : List ℕ). P.letters ++ (codes ":" ++ l)) (append_assoc D.letters ends rest ∙ ap (λ (l : List ℕ). D.letters ++ l) (append_assoc S.letters E.letters rest))))) in
          let (m2, a2, l1) = maybe_here quiet 64 c r0 (word ++ r1) spread (ap (λ (l : List ℕ). first_in (l ++ r1)) cell) (not_that begins_name c 64 is_letter refl) is_dark in
          let (is, l2, shape) = name_stands m n name k m2 r1 l1 (P.apart r2).0 in
          let (o2, ps, g2, l3, shapes) = P.again (behind_word m2) r2 l2 in
          let (p2, u2, l4) = token_back (codes ":") r2 o2 l3 in
          let (s2, ds, d2, l5, shapes2) = D.again p2 r3 l4 (S.follows rest) in
          let (t2, ss, v2, l6, shapes3) = S.again s2 rest l5 in
          let (q2, w2, l7) = E.again t2 rest l6 in (
            q2,
            line_of others quiet (name_at m2) ps ds ss comment,
            line m2 (behind_word m2) o2 p2 s2 t2 quiet (name_at m2) ps ds ss comment a2 is g2 u2 d2 v2 w2 refl,
            l7,
            ap (λ (l : List Attribute). line_of l quiet (bare_name (name_at m2)) (map bare_parameter ps) (map bare_dependency ds) (map bare_dependency ss) comment) same
                ∙ (ap (λ (b : Name). line_of (map bare_attribute attributes) quiet b (map bare_parameter ps) (map bare_dependency ds) (map bare_dependency ss) comment) shape
                ∙ (ap (λ (l : List AstParameter). line_of (map bare_attribute attributes) quiet (bare_name name) l (map bare_dependency ds) (map bare_dependency ss) comment) shapes
                ∙ (ap (λ (l : List AstDependency). line_of (map bare_attribute attributes) quiet (bare_name name) (map bare_parameter parameters) l (map bare_dependency ss) comment) shapes2
                ∙ (ap (λ (l : List AstDependency). line_of (map bare_attribute attributes) quiet (bare_name name) (map bare_parameter parameters) (map bare_dependency priors) l comment) shapes3
                ∙ sym (ap bare_recipe z))))),
          );
    }
