-- Lists, one more item at a time, and lists that may be empty.
use Rattle.std.proofs.Common.{◌≡◌, ◌↔◌, ℕ, ◌≤◌, Bool, true, false, List, [], ◌∷◌, ◌++◌, length, map, drop, append-nil, append_assoc, refl, sym, ap, ◌∙◌}
use Rattle.std.proofs.lemmas.List.{drop_all}
use Rattle.std.specs.Prelude.{IsTrue, Option, Some, None, filter_map}
use Rattle.std.specs.List.{cons_option}
use Rattle.just_lang_types.specs.declared.recipe.Pattern.{Pattern}
use Rattle.just_lang_shapes.specs.Parameters.{pattern_of}

-- what was made of those in front, and what is still to be made
pub made_step : {A B : Type 0} (f : A → B) (y : A) (rest more : List A) (old new : List B) (one : B)
    → more ≡ y ∷ rest → one ≡ f y → new ≡ old ++ one ∷ [] → new ++ map f rest ≡ old ++ map f more
made_step {A} {B} f y rest more old new one e is n =
    ap (λ (ys : List B). ys ++ map f rest) n ∙ append_assoc old (one ∷ []) (map f rest)
    ∙ ap (λ (x : B). old ++ (x ∷ map f rest)) is ∙ sym (ap (λ (xs : List A). old ++ map f xs) e)

-- behind the last one there is nothing more to be made
pub made_all : {X B : Type 0} (f : List X → List B) (xs : List X) (i : ℕ) (made all : List B) → length xs ≤ i → f [] ≡ [] → made ++ f (drop i xs) ≡ all → made ≡ all
made_all {X} {B} f xs i made all h none e = sym (ap (λ (ys : List X). made ++ f ys) (drop_all i xs h) ∙ ap (λ (ys : List B). made ++ ys) none ∙ append-nil made) ∙ e

-- one in front of a list, where there is one
pub option_front : {A : Type 0} (o : Option A) (xs : List A) → cons_option o [] ++ xs ≡ cons_option o xs
option_front None xs = refl
option_front (Some x) xs = refl

-- what was picked of those in front, and what is still to be picked
pub picked_step : {A B : Type 0} (f : A → Option B) (y : A) (rest more : List A) (old new : List B) (one : Option B)
    → more ≡ y ∷ rest → one ≡ f y → new ≡ old ++ cons_option one [] → new ++ filter_map f rest ≡ old ++ filter_map f more
picked_step {A} {B} f y rest more old new one e is n =
    ap (λ (ys : List B). ys ++ filter_map f rest) n ∙ append_assoc old (cons_option one []) (filter_map f rest)
    ∙ ap (λ (ys : List B). old ++ ys) (option_front one (filter_map f rest) ∙ ap (λ (o : Option B). cons_option o (filter_map f rest)) is ∙ sym (ap (λ (xs : List A). filter_map f xs) e))

pub patterns_none : (b : Bool) (texts : List (List ℕ)) → (IsTrue b ↔ (texts ≡ [])) → b ≡ true → pattern_of texts ≡ None
patterns_none b texts h e = ap pattern_of (h.0 e)

pub patterns_some : (b : Bool) (texts : List (List ℕ)) → (IsTrue b ↔ (texts ≡ [])) → b ≡ false → pattern_of texts ≡ Some (record { texts = texts })
patterns_some b [] h e = absurd (let t : b ≡ true = h.1 refl in let no : ⊥ = cc in no)
patterns_some b (x ∷ xs) h e = refl
