-- The first of some nodes in the order of their places has the first place.
use Rattle.std.proofs.Common.{◌≡◌, ℕ, zero, suc, ◌<◌, ◌≤◌, inl, inr, false, List, [], ◌∷◌, length, get_or, Option, Some, None, refl, ap, sym, ◌∙◌, subst, arith}
use Rattle.std.specs.Prelude.{slice_get, unwrap_or}
use Rattle.std.specs.List.{All, Contains}
use Rattle.std.specs.Option.{option_and_then}
use Rattle.std.proofs.lemmas.List.{get_or_default}
use Rattle.std.proofs.lemmas.Bool.{cases_lt}
use Rattle.std.proofs.lemmas.Option.{slice_get_within, slice_get-get_or, get_or_from_slice_get}
use Rattle.just_lang_spots.specs.Graph.{IsOnCycle, IsFirst}
use Rattle.just_lang_spots.specs.declared.spot.Spot.{Spot}
use Rattle.just_lang_spots.specs.Spots.{comes_before}
use Rattle.just_lang.specs.Cycles.{IsFirstSpot, IsSpotOnCycle}
use Rattle.just_lang.specs.SpotOrder.{spot_at, nowhere}

first_none : (P : ℕ → Type 0) (xs : List ℕ) (o : Option ℕ) → IsFirst P xs o → o ≡ None → (k : ℕ) → k < length xs → P (get_or xs k 0) → ⊥
first_none P [] o f e k h p = omega (arith, h)
first_none P (x ∷ xs) o f e zero h p =
    elim f [
      | inl here ↦ let some = here.1 in absurd (cc)
      | inr rest ↦ rest.0 p
    ]
first_none P (x ∷ xs) o f e (suc k) h p =
    elim f [
      | inl here ↦ let some = here.1 in absurd (cc)
      | inr rest ↦ first_none P xs o rest.1 e k (omega (arith, h)) p
    ]

-- a place at which a number of a quality stands, and before which none stands
record IsFirstAt (P : ℕ → Type 0) (xs : List ℕ) (v : ℕ) : Type 0 where
  place : ℕ
  within : place < length xs
  is : get_or xs place 0 ≡ v
  has : P v
  none : (k : ℕ) → k < place → P (get_or xs k 0) → ⊥

none_before : (P : ℕ → Type 0) (x : ℕ) (xs : List ℕ) (i : ℕ) → (P x → ⊥) → ((k : ℕ) → k < i → P (get_or xs k 0) → ⊥) → (k : ℕ) → k < suc i → P (get_or (x ∷ xs) k 0) → ⊥
none_before P x xs i here rest zero h p = here p
none_before P x xs i here rest (suc k) h p = rest k (omega (arith, h)) p

first_some : (P : ℕ → Type 0) (xs : List ℕ) (o : Option ℕ) (v : ℕ) → IsFirst P xs o → o ≡ Some v → IsFirstAt P xs v
first_some P [] o v f e = absurd (cc)
first_some P (x ∷ xs) o v f e =
    elim f [
      | inl here ↦
          let same : x ≡ v = ap (λ (q : Option ℕ). unwrap_or q x) (sym here.1 ∙ e) in
          record { place = 0; within = omega arith; is = same; has = subst P same here.0; none = λ k h p. absurd (omega (arith, h)) }
      | inr rest ↦
          let r = first_some P xs o v rest.1 e in
          record { place = suc r.place; within = omega (arith, r.within); is = r.is; has = r.has; none = none_before P x xs r.place rest.0 r.none }
    ]

-- the numbers of places are nodes
pub nodes_within : (n m : ℕ) (nodes slice : List ℕ) → slice ≡ nodes → All (λ v. v < n) nodes → n ≡ m → All (λ v. v < m) slice
nodes_within n m nodes slice e all same = subst (λ (vs : List ℕ). All (λ v. v < m) vs) (sym e) (subst (λ k. All (λ v. v < k) nodes) same all)

-- and so is the first that is on a cycle
pub node_within : (edges : List (List ℕ)) (n : ℕ) (nodes slice : List ℕ) (o : Option ℕ) (v : ℕ) → slice ≡ nodes → All (λ v. v < n) nodes → IsFirst (IsOnCycle edges) slice o → o ≡ Some v → v < n
node_within edges n nodes slice o v e all first is =
    let at = first_some (IsOnCycle edges) slice o v first is in
    let there : All (λ k. k < n) slice = subst (λ (vs : List ℕ). All (λ k. k < n) vs) (sym e) all in
    subst (λ k. k < n) at.is (there at.place 0 at.within)

-- where none of the nodes is on a cycle, there is no such place
pub no_spot : (edges : List (List ℕ)) (spots : List Spot) (nodes slice : List ℕ) (o : Option ℕ) → slice ≡ nodes → ((n : ℕ) → n < length spots → Contains nodes n) → IsFirst (IsOnCycle edges) slice o → o ≡ None
    → IsFirstSpot (IsSpotOnCycle edges spots) None
unfolding IsFirstSpot
no_spot edges spots nodes slice o same whole first e =
    λ s on.
    let c = whole on.0 (slice_get_within spots on.0 s on.2) in
    let here : get_or nodes c.0 0 ≡ on.0 = get_or_default nodes c.0 0 on.0 c.1 ∙ c.2 in
    first_none (IsOnCycle edges) nodes o (subst (λ (vs : List ℕ). IsFirst (IsOnCycle edges) vs o) same first) e c.0 c.1 (subst (IsOnCycle edges) (sym here) on.1)

-- the first of the nodes has the first place
pub a_spot : (edges : List (List ℕ)) (spots : List Spot) (nodes slice : List ℕ) (o : Option ℕ) (v : ℕ) (s d : Spot) → slice ≡ nodes → ((n : ℕ) → n < length spots → Contains nodes n)
    → ((i j : ℕ) → i ≤ j → j < length nodes → comes_before (spot_at spots nodes j) (spot_at spots nodes i) ≡ false)
    → IsFirst (IsOnCycle edges) slice o → o ≡ Some v → v < length spots → s ≡ get_or spots v d → IsFirstSpot (IsSpotOnCycle edges spots) (Some s)
unfolding IsFirstSpot
a_spot edges spots nodes slice o v s d same whole order first e within at_d =
    let is : s ≡ get_or spots v nowhere = at_d ∙ get_or_default spots v d nowhere within in
    let at = first_some (IsOnCycle edges) nodes o v (subst (λ (vs : List ℕ). IsFirst (IsOnCycle edges) vs o) same first) e in
    let there : slice_get spots v ≡ Some s = slice_get-get_or spots v nowhere within ∙ ap (λ (x : Spot). Some x) (sym is) in
    let mine : spot_at spots nodes at.place ≡ s = ap (λ n. get_or spots n nowhere) at.is ∙ sym is in (
      (v, at.has, there),
      λ other on.
          let c = whole on.0 (slice_get_within spots on.0 other on.2) in
          let here : get_or nodes c.0 0 ≡ on.0 = get_or_default nodes c.0 0 on.0 c.1 ∙ c.2 in
          let theirs : spot_at spots nodes c.0 ≡ other = ap (λ n. get_or spots n nowhere) here ∙ get_or_from_slice_get spots on.0 other nowhere on.2 in
          let behind : at.place ≤ c.0 = elim (cases_lt c.0 at.place) [
            | inl less ↦ absurd (at.none c.0 less (subst (IsOnCycle edges) (sym here) on.1))
            | inr le ↦ le
          ] in
          subst (λ (x : Spot). comes_before other x ≡ false) mine (subst (λ (x : Spot). comes_before x (spot_at spots nodes at.place) ≡ false) theirs (order at.place c.0 behind c.1)),
    )

-- by what was found
pub first_spot_is : (edges : List (List ℕ)) (spots : List Spot) (nodes slice : List ℕ) (o : Option ℕ) (r : Option Spot) → slice ≡ nodes → All (λ v. v < length spots) nodes
    → ((n : ℕ) → n < length spots → Contains nodes n)
    → ((i j : ℕ) → i ≤ j → j < length nodes → comes_before (spot_at spots nodes j) (spot_at spots nodes i) ≡ false)
    → IsFirst (IsOnCycle edges) slice o → r ≡ option_and_then (slice_get spots) o → IsFirstSpot (IsSpotOnCycle edges spots) r
first_spot_is edges spots nodes slice None r same all whole order first is =
    subst (λ (x : Option Spot). IsFirstSpot (IsSpotOnCycle edges spots) x) (sym is) (no_spot edges spots nodes slice None same whole first refl)
first_spot_is edges spots nodes slice (Some v) r same all whole order first is =
    let within : v < length spots = node_within edges (length spots) nodes slice (Some v) v same all first refl in
    subst (λ (x : Option Spot). IsFirstSpot (IsSpotOnCycle edges spots) x) (sym (is ∙ slice_get-get_or spots v nowhere within))
    (a_spot edges spots nodes slice (Some v) v (get_or spots v nowhere) nowhere same whole order first refl within refl)
