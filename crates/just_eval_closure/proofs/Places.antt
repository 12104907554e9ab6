-- What stands at the places of a list.
use Rattle.std.proofs.Common.{◌≡◌, ℕ, zero, suc, ◌<◌, Bool, true, false, ◌||◌, eq-eqb, List, [], ◌∷◌, ◌++◌, length, Option, Some, None, refl, ap, sym, ◌∙◌, subst, arith, slice_get}
use Rattle.std.proofs.lemmas.Bool.{eqb-true}
use Rattle.just_lang_types.specs.declared.key.Key.{Key}
use Rattle.just_lang_types.specs.declared.place.Place.{Place}
use Rattle.just_lang_types.specs.Keys.{same_key}
use Rattle.just_eval_closure.specs.Places.{same_round, is_place, is_listed}
use Rattle.just_eval_closure.proofs.Equal.{and_both, both_and, same_key_is, same_key_self}
use Rattle.just_eval_closure.specs.Places.{place}

-- x stands at place n
abbrev pub At : List Place → ℕ → Place → Type 0
At list n x = slice_get list n ≡ Some x

-- what stands in a list stands in a longer one
pub at_left : (xs ys : List Place) (n : ℕ) (x : Place) → At xs n x → At (xs ++ ys) n x
at_left [] ys n x h = absurd (cc)
at_left (y ∷ xs) ys zero x h = h
at_left (y ∷ xs) ys (suc n) x h = at_left xs ys n x h

-- what is pushed stands at the end
pub at_last : (xs : List Place) (x : Place) → At (xs ++ x ∷ []) (length xs) x
at_last [] x = refl
at_last (y ∷ xs) x = at_last xs x

-- within the list something stands at each place
pub at_within : (xs : List Place) (n : ℕ) → n < length xs → (x : Place) × At xs n x
at_within [] n lt = absurd (omega (arith, lt))
at_within (y ∷ xs) zero lt = (y, refl)
at_within (y ∷ xs) (suc n) lt = at_within xs n (omega (arith, lt))

-- one thing stands at a place
pub some_is : {A : Type 0} (x y : A) → Some x ≡ Some y → x ≡ y
some_is x y e = cc

-- one number is some number
pub some_nat : (x y : ℕ) → Some x ≡ Some y → x ≡ y
some_nat x y e = cc

-- rounds that are told the same are equal
pub same_round_is : (a b : Option ℕ) → same_round a b ≡ true → a ≡ b
same_round_is None None e = refl
same_round_is None (Some m) e = absurd (cc)
same_round_is (Some n) None e = absurd (cc)
same_round_is (Some n) (Some m) e = ap (λ i. Some i) (eqb-true n m e)

-- a place that is told to be that of a key in a round is it
pub is_place_is : (r : Option ℕ) (k : Key) (x : Place) → is_place r k x ≡ true → x ≡ place r k
is_place_is r k x h =
    let both = and_both (same_round x.round r) _ h in
    ap (λ a. place a x.key) (same_round_is x.round r both.0) ∙ ap (λ b. place r b) (same_key_is x.key k both.1)

-- a round is told the same as itself
pub same_round_self : (r : Option ℕ) → same_round r r ≡ true
same_round_self None = refl
same_round_self (Some n) = eq-eqb n n refl

-- the place of a key in a round is told to be it
pub is_place_self : (r : Option ℕ) (k : Key) → is_place r k (place r k) ≡ true
is_place_self r k = both_and (same_round r r) (same_key k k) (same_round_self r) (same_key_self k)

-- one of two tests holds where the second does
or_right : (a b : Bool) → b ≡ true → (a || b) ≡ true
or_right true b h = refl
or_right false b h = h

-- where a key stands in a round
abbrev pub Has : List Place → Option ℕ → Key → Type 0
Has list r k = (n : ℕ) × At list n (place r k)

-- a key that is listed stands somewhere
pub listed_has : (list : List Place) (r : Option ℕ) (k : Key) → is_listed list r k ≡ true → Has list r k
listed_has [] r k h = absurd (cc)
listed_has (x ∷ xs) r k h =
    elim (is_place r k x) as (λ b. is_place r k x ≡ b → (b || is_listed xs r k) ≡ true → Has (x ∷ xs) r k) [
      | true ↦ λ t s. (0, ap (λ y. Some y) (is_place_is r k x t))
      | false ↦ λ t s. let rest = listed_has xs r k s in (suc rest.0, rest.1)
    ] refl h

-- a key that stands somewhere is listed
pub has_listed : (list : List Place) (r : Option ℕ) (k : Key) (n : ℕ) → At list n (place r k) → is_listed list r k ≡ true
has_listed [] r k n h = absurd (cc)
has_listed (x ∷ xs) r k zero h =
    let is : x ≡ place r k = cc in ap (λ b. b || is_listed xs r k) (subst (λ y. is_place r k y ≡ true) (sym is) (is_place_self r k))
has_listed (x ∷ xs) r k (suc n) h = or_right (is_place r k x) (is_listed xs r k) (has_listed xs r k n h)
