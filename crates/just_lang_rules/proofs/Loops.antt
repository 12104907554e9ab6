-- One more step of a loop over a list.
use Rattle.std.proofs.Common.{◌≡◌, List, [], ◌∷◌, ◌++◌, map, refl, sym, ap, ◌∙◌, append_assoc}
use Rattle.std.specs.Prelude.{Option, Some, None, filter_map, option_map}
use Rattle.std.specs.List.{cons_option, flat_map}

-- one in front of a list, where there is one
pub option_front : {A : Type 0} (o : Option A) (xs : List A) → cons_option o [] ++ xs ≡ cons_option o xs
option_front None xs = refl
option_front (Some x) xs = refl

pub map_option : {A B : Type 0} (f : A → B) (o : Option A) (xs : List A) → map f (cons_option o xs) ≡ cons_option (option_map f o) (map f xs)
map_option f None xs = refl
map_option f (Some x) xs = refl

pub map_append : {A B : Type 0} (f : A → B) (xs ys : List A) → map f (xs ++ ys) ≡ map f xs ++ map f ys
map_append f [] ys = refl
map_append f (x ∷ xs) ys = ap (λ k. f x ∷ k) (map_append f xs ys)

-- what was picked of those in front, and what is still to be picked
pub picked_step : {A B : Type 0} (f : A → Option B) (y : A) (rest more : List A) (old new : List B) (one : Option B)
    → more ≡ y ∷ rest → one ≡ f y → new ≡ old ++ cons_option one [] → new ++ filter_map f rest ≡ old ++ filter_map f more
picked_step {A} {B} f y rest more old new one e is n =
    ap (λ (ys : List B). ys ++ filter_map f rest) n ∙ append_assoc old (cons_option one []) (filter_map f rest)
    ∙ ap (λ (ys : List B). old ++ ys) (option_front one (filter_map f rest) ∙ ap (λ (o : Option B). cons_option o (filter_map f rest)) is ∙ sym (ap (λ (xs : List A). filter_map f xs) e))

-- the same over what the elements mean
pub viewed_step : {A B C : Type 0} (view : B → C) (f : A → Option C) (y : A) (rest more : List A) (old new : List B) (one : Option B)
    → more ≡ y ∷ rest → option_map view one ≡ f y → new ≡ old ++ cons_option one [] → map view new ++ filter_map f rest ≡ map view old ++ filter_map f more
viewed_step {A} {B} {C} view f y rest more old new one e is n =
    picked_step f y rest more (map view old) (map view new) (option_map view one) e is
    (ap (λ (xs : List B). map view xs) n ∙ map_append view old (cons_option one []) ∙ ap (λ (xs : List C). map view old ++ xs) (map_option view one []))

-- what was added of those in front, and what is still to be added
pub flat_step : {A B : Type 0} (f : A → List B) (y : A) (rest more : List A) (old new : List B) → more ≡ y ∷ rest → new ≡ old ++ f y → new ++ flat_map f rest ≡ old ++ flat_map f more
flat_step {A} {B} f y rest more old new e n =
    ap (λ (ys : List B). ys ++ flat_map f rest) n ∙ append_assoc old (f y) (flat_map f rest) ∙ sym (ap (λ (xs : List A). old ++ flat_map f xs) e)
