-- Of the last ones of each name each has its name alone.
use Rattle.std.proofs.Common.{◌≡◌, ℕ, zero, suc, Bool, true, false, ◌||◌, cond, List, [], ◌∷◌, Option, Some, None, refl, ap, ◌∙◌, subst}
use Rattle.std.specs.Prelude.{is_some, slice_get, unwrap_or}
use Rattle.std.specs.List.{list_any}
use Rattle.std.specs.Cmp.Lexicographic.{nat_list_eq_equiv}
use Rattle.just_lang_spots.specs.Standing.{has_name, last_of_each}
use Rattle.just_lang_spots.specs.Entries.{or_place, last_place}
use Rattle.just_lang_spots.proofs.LastPlaces.{some_last}

or_left : (a b : Bool) → a || b ≡ false → a ≡ false
or_left true b h = h
or_left false b h = refl

or_right : (a b : Bool) → a || b ≡ false → b ≡ false
or_right true b h = absurd (let no : ⊥ = cc in no)
or_right false b h = h

module _ {A : Type 0} (name : A → List ℕ) where
  -- a name that none has none of the last ones has
  none_kept : (q : List ℕ) (xs : List (ℕ × A)) → list_any (has_name name q) xs ≡ false → list_any (has_name name q) (last_of_each name xs) ≡ false
  none_kept q [] h = refl
  none_kept q (x ∷ xs) h =
      let rest = none_kept q xs (or_right (has_name name q x) (list_any (has_name name q) xs) h) in
      elim (list_any (has_name name (name x.1)) xs) as (λ b. list_any (has_name name q) (cond b (last_of_each name xs) (x ∷ last_of_each name xs)) ≡ false) [
        | true ↦ rest
        | false ↦ ap (λ b. b || list_any (has_name name q) (last_of_each name xs)) (or_left (has_name name q x) (list_any (has_name name q) xs) h) ∙ rest
      ]

  none_last : (q : List ℕ) (xs : List (ℕ × A)) → list_any (has_name name q) xs ≡ false → last_place name q xs ≡ None
  none_last q xs h = no_place (last_place name q xs) (some_last name q xs ∙ h)
    where
      no_place : (o : Option ℕ) → is_some o ≡ false → o ≡ None
      no_place None k = refl
      no_place (Some n) k = absurd (let no : ⊥ = cc in no)

  -- one that is kept in front of the others
  kept_here : (y : ℕ × A) (ys : List (ℕ × A)) (i : ℕ) (x : ℕ × A) → list_any (has_name name (name y.1)) ys ≡ false
      → ((j : ℕ) → slice_get (last_of_each name ys) j ≡ Some x → last_place name (name x.1) (last_of_each name ys) ≡ Some j)
      → slice_get (y ∷ last_of_each name ys) i ≡ Some x → last_place name (name x.1) (y ∷ last_of_each name ys) ≡ Some i
  kept_here y ys zero x e behind k =
      let same : y ≡ x = ap (λ (o : Option (ℕ × A)). unwrap_or o y) k in
      subst (λ (z : ℕ × A). last_place name (name z.1) (y ∷ last_of_each name ys) ≡ Some 0) same
      (ap (λ o. or_place (has_name name (name y.1) y) o) (none_last (name y.1) (last_of_each name ys) (none_kept (name y.1) ys e))
      ∙ ap (λ b. or_place b None) (nat_list_eq_equiv.refl (name y.1)))
  kept_here y ys (suc j) x e behind k = ap (λ o. or_place (has_name name (name x.1) y) o) (behind j k)

  -- each stands at the last place of its name
  pub last_of_kept : (xs : List (ℕ × A)) (i : ℕ) (x : ℕ × A) → slice_get (last_of_each name xs) i ≡ Some x → last_place name (name x.1) (last_of_each name xs) ≡ Some i
  last_of_kept [] i x h = absurd (let no : ⊥ = cc in no)
  last_of_kept (y ∷ ys) i x h =
      elim (list_any (has_name name (name y.1)) ys) as (λ b. list_any (has_name name (name y.1)) ys ≡ b → slice_get (cond b (last_of_each name ys) (y ∷ last_of_each name ys)) i ≡ Some x
      → last_place name (name x.1) (cond b (last_of_each name ys) (y ∷ last_of_each name ys)) ≡ Some i) [
        | true ↦ λ e k. last_of_kept ys i x k
        | false ↦ λ e k. kept_here y ys i x e (λ j m. last_of_kept ys j x m) k
      ] refl h
