-- Names of which none stands behind an equal one: those of the parameters of a recipe.
use Rattle.std.proofs.Common.{◌≡◌, ◌≢◌, ℕ, Bool, true, false, List, [], ◌∷◌, ◌++◌, map, Option, refl, sym, ap, ◌∙◌, subst}
use Rattle.std.specs.Prelude.{bytes_eq}
use Rattle.std.specs.List.{AllByRecursion}
use Rattle.std.proofs.lemmas.List.Elements.{All-from_recursion}
use Rattle.just_lang_syntax.specs.declared.ast.AstParameter.{AstParameter}
use Rattle.just_lang_syntax.specs.declared.ast.Attribute.{Attribute}
use Rattle.just_lang_syntax.specs.declared.ast.StringLiteral.{StringLiteral}
use Rattle.just_lang_spots.specs.declared.spot.Spot.{Spot}
use Rattle.just_lang_spots.specs.Repeated.{is_among, repeated, repeated_behind}
use Rattle.just_lang_spots.specs.Spots.{spot_where}
use Rattle.just_lang_rules.specs.ParameterSpots.{parameter_name}
use Rattle.just_lang_shapes.specs.Parameters.{parameters_of}
use Rattle.just_lang.specs.Sound.{AreDistinct, parameter_names}
use Rattle.just_lang.proofs.Found.{AreNamed}
use Rattle.just_lang.proofs.Known.{any_append, name_stays}
use Rattle.just_lang.proofs.Lists.{none_left, none_right, left_false, right_false, differs, all_weaker}

-- names of which no two are equal
pub distinct : (xs : List (List ℕ)) → AreNamed xs → AreDistinct xs
distinct [] h = tt
distinct (x ∷ xs) h = (All-from_recursion (λ (y : List ℕ). y ≢ x) xs h.0, distinct xs h.1)

pub no_spot : (b : Bool) (s : Spot) → spot_where b s ≡ [] → b ≡ false
no_spot true s h = absurd (let no : ⊥ = cc in no)
no_spot false s h = refl

abbrev texts : List AstParameter → List (List ℕ)
texts ps = map (λ (p : AstParameter). p.name.text) ps

-- none of these names is among those before them
abbrev AreNew : List (List ℕ) → List (List ℕ) → Type 0
AreNew names qs = AllByRecursion (λ (q : List ℕ). is_among q names ≡ false) qs

new_before : (names : List (List ℕ)) (x q : List ℕ) → is_among q (names ++ x ∷ []) ≡ false → is_among q names ≡ false
new_before names x q h = left_false (is_among q names) (is_among q (x ∷ [])) (sym (any_append (λ (other : List ℕ). bytes_eq other q) names (x ∷ [])) ∙ h)

new_here : (names : List (List ℕ)) (x q : List ℕ) → is_among q (names ++ x ∷ []) ≡ false → q ≢ x
new_here names x q h =
    let last : is_among q (x ∷ []) ≡ false = right_false (is_among q names) (is_among q (x ∷ [])) (sym (any_append (λ (other : List ℕ). bytes_eq other q) names (x ∷ [])) ∙ h) in
    λ e. differs x q (left_false (bytes_eq x q) false last) (sym e)

-- the names of those with places
abbrev pub first_names : List (List ℕ × Spot) → List (List ℕ)
first_names xs = map (λ (x : List ℕ × Spot). x.0) xs

new_names : (names : List (List ℕ)) (xs : List (List ℕ × Spot)) → repeated_behind names xs ≡ [] → AreNew names (first_names xs) × AreNamed (first_names xs)
new_names names [] h = (tt, tt)
new_names names (x ∷ xs) h =
    let more : List (List ℕ) = names ++ x.0 ∷ [] in
    let first : is_among x.0 names ≡ false = no_spot (is_among x.0 names) x.1 (none_left (spot_where (is_among x.0 names) x.1) (repeated_behind more xs) h) in
    let rest = new_names more xs (none_right (spot_where (is_among x.0 names) x.1) (repeated_behind more xs) h) in (
      (first, all_weaker (λ (q : List ℕ). is_among q more ≡ false) (λ (q : List ℕ). is_among q names ≡ false) (new_before names x.0) (first_names xs) rest.0),
      (all_weaker (λ (q : List ℕ). is_among q more ≡ false) (λ (q : List ℕ). q ≢ x.0) (new_here names x.0) (first_names xs) rest.0, rest.1),
    )

-- names of which none stands behind an equal one
pub names_once : (xs : List (List ℕ × Spot)) → repeated xs ≡ [] → AreNamed (first_names xs)
names_once xs h = (new_names [] xs h).1

first_texts : (file : ℕ) (ps : List AstParameter) → first_names (map (parameter_name file) ps) ≡ texts ps
first_texts file [] = refl
first_texts file (p ∷ ps) = ap (λ (ns : List (List ℕ)). p.name.text ∷ ns) (first_texts file ps)

names_stay : (text_of : StringLiteral → Option (List ℕ)) (attributes : List Attribute) (ps : List AstParameter) → parameter_names (parameters_of text_of attributes ps) ≡ texts ps
names_stay text_of attributes [] = refl
names_stay text_of attributes (p ∷ ps) =
    ap (λ (n : List ℕ). n ∷ parameter_names (parameters_of text_of attributes ps)) (name_stays text_of attributes p) ∙ ap (λ (ns : List (List ℕ)). p.name.text ∷ ns) (names_stay text_of attributes ps)

pub parameters_distinct : (text_of : StringLiteral → Option (List ℕ)) (attributes : List Attribute) (file : ℕ) (ps : List AstParameter) → repeated (map (parameter_name file) ps) ≡ []
    → AreDistinct (parameter_names (parameters_of text_of attributes ps))
parameters_distinct text_of attributes file ps h =
    subst AreDistinct (sym (names_stay text_of attributes ps)) (distinct (texts ps) (subst AreNamed (first_texts file ps) (names_once (map (parameter_name file) ps) h)))
