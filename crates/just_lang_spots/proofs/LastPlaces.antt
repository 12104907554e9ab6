-- The last places of names.
use Rattle.std.proofs.Common.{◌≡◌, ℕ, suc, Bool, true, false, ◌||◌, cond, List, [], ◌∷◌, ◌++◌, length, Option, Some, None, refl, ap, ◌∙◌}
use Rattle.std.specs.Prelude.{is_some, slice_get}
use Rattle.std.specs.List.{list_any}
use Rattle.std.specs.Option.{option_and_then}
use Rattle.just_lang_spots.specs.Standing.{has_name, named, or_earlier}
use Rattle.just_lang_spots.specs.Entries.{or_place, last_place}

or_place_some : (b : Bool) (o : Option ℕ) → is_some (or_place b o) ≡ b || is_some o
or_place_some true None = refl
or_place_some false None = refl
or_place_some true (Some k) = refl
or_place_some false (Some k) = refl

module _ {A : Type 0} (name : A → List ℕ) where
  -- with one more at the end
  pub last_place_more : (q : List ℕ) (xs : List (ℕ × A)) (x : ℕ × A)
      → last_place name q (xs ++ x ∷ []) ≡ cond (has_name name q x) (Some (length xs)) (last_place name q xs)
  last_place_more q [] x = refl
  last_place_more q (y ∷ ys) x =
      ap (or_place (has_name name q y)) (last_place_more q ys x)
      ∙ elim (has_name name q x) as (λ b. or_place (has_name name q y) (cond b (Some (length ys)) (last_place name q ys)) ≡ cond b (Some (suc (length ys))) (or_place (has_name name q y) (last_place name q ys))) [
        | true ↦ refl
        | false ↦ refl
      ]

  -- there is one where one of them has the name
  pub some_last : (q : List ℕ) (xs : List (ℕ × A)) → is_some (last_place name q xs) ≡ list_any (has_name name q) xs
  some_last q [] = refl
  some_last q (x ∷ xs) = or_place_some (has_name name q x) (last_place name q xs) ∙ ap (λ b. has_name name q x || b) (some_last q xs)

  first_or_none : (x : ℕ × A) (xs : List (ℕ × A)) (b : Bool) → or_earlier x b None ≡ option_and_then (slice_get (x ∷ xs)) (or_place b None)
  first_or_none x xs true = refl
  first_or_none x xs false = refl

  in_range_first : (x : ℕ × A) (xs : List (ℕ × A)) (b : Bool) → is_some (option_and_then (slice_get (x ∷ xs)) (or_place b None)) ≡ is_some (or_place b None)
  in_range_first x xs true = refl
  in_range_first x xs false = refl

  -- that place is one of the list
  pub in_range : (q : List ℕ) (xs : List (ℕ × A)) → is_some (option_and_then (slice_get xs) (last_place name q xs)) ≡ is_some (last_place name q xs)
  in_range q [] = refl
  in_range q (x ∷ xs) =
      elim (last_place name q xs) as (λ o. is_some (option_and_then (slice_get xs) o) ≡ is_some o
      → is_some (option_and_then (slice_get (x ∷ xs)) (or_place (has_name name q x) o)) ≡ is_some (or_place (has_name name q x) o)) [
        | None ↦ λ ih. in_range_first x xs (has_name name q x)
        | Some k ↦ λ ih. ih
      ] (in_range q xs)

  or_some : (x : ℕ × A) (b : Bool) (o : Option (ℕ × A)) → is_some o ≡ true → or_earlier x b o ≡ o
  or_some x b None h = absurd (cc)
  or_some x b (Some y) h = refl

  -- the last one of a name is the one at that place
  pub named_is : (q : List ℕ) (xs : List (ℕ × A)) → named name q xs ≡ option_and_then (slice_get xs) (last_place name q xs)
  named_is q [] = refl
  named_is q (x ∷ xs) =
      ap (or_earlier x (has_name name q x)) (named_is q xs)
      ∙ elim (last_place name q xs) as (λ o. is_some (option_and_then (slice_get xs) o) ≡ is_some o
      → or_earlier x (has_name name q x) (option_and_then (slice_get xs) o) ≡ option_and_then (slice_get (x ∷ xs)) (or_place (has_name name q x) o)) [
        | None ↦ λ i. first_or_none x xs (has_name name q x)
        | Some k ↦ λ i. or_some x (has_name name q x) (slice_get xs k) i
      ] (in_range q xs)
