-- Lists that a loop goes over, one more element at a time.
use Rattle.std.proofs.Common.{◌≡◌, ◌<◌, ◌≤◌, ◌+◌, ℕ, List, [], ◌∷◌, ◌++◌, map, drop, length, get_or, Option, refl, sym, ◌∙◌, ap, append_assoc, append-nil}
use Rattle.std.specs.List.{enumerate_from, flat_map}
use Rattle.std.proofs.lemmas.List.{drop_all}
use Rattle.just_lang_spots.specs.declared.spot.Spot.{Spot}
use Rattle.just_lang_spots.specs.Spots.{earlier, first_spot}
use Rattle.just_lang_spots.proofs.Spots.{first_behind}
use Rattle.just_lang_spots.proofs.ListLaws.{drop_here}

-- one more thing, seen as another: what was found behind it, and what is still to come
pub first_step_of : {X Y : Type 0} (f : Y → List Spot) (g : X → Y) (found here next : Option Spot) (xs : List X) (i : ℕ) (x : X) → i < length xs → x ≡ get_or xs i x
    → here ≡ first_spot (f (g x)) → next ≡ earlier found here
    → earlier next (first_spot (flat_map f (map g (drop (i + 1) xs)))) ≡ earlier found (first_spot (flat_map f (map g (drop i xs))))
first_step_of f g found here next xs i x less is h k =
    ap (λ s. earlier s (first_spot (flat_map f (map g (drop (i + 1) xs))))) (k ∙ ap (earlier found) h)
    ∙ sym (first_behind found (f (g x)) (flat_map f (map g (drop (i + 1) xs))))
    ∙ ap (λ ys. earlier found (first_spot (flat_map f (map g ys)))) (sym (drop_here xs i x less is))

module _ {X Z : Type 0} (f : ℕ × X → List Z) where
  -- one more thing with its number, whose parts are added
  pub enumerated_step : (old new : List Z) (xs : List X) (k : ℕ) (x : X) → k < length xs → x ≡ get_or xs k x → new ≡ old ++ f (k, x)
      → new ++ flat_map f (enumerate_from (k + 1) (drop (k + 1) xs)) ≡ old ++ flat_map f (enumerate_from k (drop k xs))
  enumerated_step old new xs k x less is h =
      ap (λ ys. ys ++ flat_map f (enumerate_from (k + 1) (drop (k + 1) xs))) h
      ∙ append_assoc old (f (k, x)) (flat_map f (enumerate_from (k + 1) (drop (k + 1) xs)))
      ∙ ap (λ ys. old ++ flat_map f (enumerate_from k ys)) (sym (drop_here xs k x less is))

  -- there are no others behind the last one
  pub enumerated_end : (found : List Z) (xs : List X) (k : ℕ) → length xs ≤ k → found ++ flat_map f (enumerate_from k (drop k xs)) ≡ found
  enumerated_end found xs k h = ap (λ ys. found ++ flat_map f (enumerate_from k ys)) (drop_all k xs h) ∙ append-nil found

-- what was made of those in front, and what is still to be made
pub made_step : {A B : Type 0} (f : A → B) (y : A) (rest more : List A) (old new : List B) (one : B)
    → more ≡ y ∷ rest → one ≡ f y → new ≡ old ++ one ∷ [] → new ++ map f rest ≡ old ++ map f more
made_step {A} {B} f y rest more old new one e is n =
    ap (λ (ys : List B). ys ++ map f rest) n ∙ append_assoc old (one ∷ []) (map f rest)
    ∙ ap (λ (x : B). old ++ (x ∷ map f rest)) is ∙ sym (ap (λ (xs : List A). old ++ map f xs) e)
