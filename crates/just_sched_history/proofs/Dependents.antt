-- Laws of lists by number, each of which may grow.
use Rattle.std.proofs.Common.{◌≡◌, ℕ, ◌<◌, ◌⊎◌, inl, inr, ⊎_elim, zero, suc, List, [], ◌∷◌, ◌++◌, length, map, set, get_or, refl, sym, ◌∙◌, ap, subst, arith}
use Rattle.std.specs.Prelude.{slice_index_or, Contains}
use Rattle.just_sched_history.proofs.Led.{same_or, contains_more, contains_last, contained_more}

-- an empty list more leaves all empty
pub empty_more : {V : Type 0} (items : V → List ℕ) (vs : List V) (v : V) → items v ≡ [] → ((q m : ℕ) → Contains (slice_index_or (map items vs) q []) m → ⊥) → (q m : ℕ) → Contains (slice_index_or (map items (vs ++ v ∷ [])) q []) m → ⊥
empty_more items [] v is none zero m at = let here : Contains [] m = subst (λ (xs : List ℕ). Contains xs m) is at in omega (arith, here.1)
empty_more items [] v is none (suc q) m at = omega (arith, at.1)
empty_more items (x ∷ vs) v is none zero m at = none zero m at
empty_more items (x ∷ vs) v is none (suc q) m at = empty_more items vs v is (λ k i. none (suc k) i) q m at

-- the list that was set, and another
pub list_set : {V : Type 0} (items : V → List ℕ) (vs : List V) (i : ℕ) (v : V) → i < length vs → slice_index_or (map items (set vs i v)) i [] ≡ items v
list_set items [] i v lt = absurd (omega (arith, lt))
list_set items (x ∷ vs) zero v lt = refl
list_set items (x ∷ vs) (suc i) v lt = list_set items vs i v (omega (arith, lt))

pub list_other : {V : Type 0} (items : V → List ℕ) (vs : List V) (i : ℕ) (v : V) (q : ℕ) → (q ≡ i → ⊥) → slice_index_or (map items (set vs i v)) q [] ≡ slice_index_or (map items vs) q []
list_other items [] i v q other = refl
list_other items (x ∷ vs) zero v zero other = absurd (other refl)
list_other items (x ∷ vs) zero v (suc q) other = refl
list_other items (x ∷ vs) (suc i) v zero other = refl
list_other items (x ∷ vs) (suc i) v (suc q) other = list_other items vs i v q (λ same. other (ap suc same))

-- the list of a number that is there
pub list_there : {V : Type 0} (items : V → List ℕ) (vs : List V) (i : ℕ) (d : V) → i < length vs → slice_index_or (map items vs) i [] ≡ items (get_or vs i d)
list_there items [] i d lt = absurd (omega (arith, lt))
list_there items (x ∷ vs) zero d lt = refl
list_there items (x ∷ vs) (suc i) d lt = list_there items vs i d (omega (arith, lt))

module _ {V : Type 0} (items : V → List ℕ) (vs : List V) (i x : ℕ) (v : V) (lt : i < length vs) (is : items v ≡ slice_index_or (map items vs) i [] ++ x ∷ []) where
  -- each list contains what it did
  pub listed_kept : (q m : ℕ) → Contains (slice_index_or (map items vs) q []) m → Contains (slice_index_or (map items (set vs i v)) q []) m
  listed_kept q m at =
      ⊎_elim
      (λ (same : q ≡ i).
      subst (λ k. Contains (slice_index_or (map items (set vs i v)) k []) m) (sym same)
      (subst (λ (xs : List ℕ). Contains xs m) (sym (list_set items vs i v lt ∙ is)) (contains_more (slice_index_or (map items vs) i []) x m (subst (λ k. Contains (slice_index_or (map items vs) k []) m) same at))))
      (λ (other : q ≡ i → ⊥). subst (λ (xs : List ℕ). Contains xs m) (sym (list_other items vs i v q other)) at)
      (same_or q i)

  -- the one that grew contains the new number
  pub listed_new : Contains (slice_index_or (map items (set vs i v)) i []) x
  listed_new = subst (λ (xs : List ℕ). Contains xs x) (sym (list_set items vs i v lt ∙ is)) (contains_last (slice_index_or (map items vs) i []) x)

  -- and none contains any other
  pub listed_only : (q m : ℕ) → Contains (slice_index_or (map items (set vs i v)) q []) m → Contains (slice_index_or (map items vs) q []) m ⊎ (m ≡ x)
  listed_only q m at =
      ⊎_elim
      (λ (same : q ≡ i).
      ⊎_elim (λ (before : Contains (slice_index_or (map items vs) i []) m). inl (subst (λ k. Contains (slice_index_or (map items vs) k []) m) (sym same) before)) (λ (new : m ≡ x). inr new)
      (contained_more (slice_index_or (map items vs) i []) x m (subst (λ (xs : List ℕ). Contains xs m) (list_set items vs i v lt ∙ is) (subst (λ k. Contains (slice_index_or (map items (set vs i v)) k []) m) same at))))
      (λ (other : q ≡ i → ⊥). inl (subst (λ (xs : List ℕ). Contains xs m) (list_other items vs i v q other) at))
      (same_or q i)
