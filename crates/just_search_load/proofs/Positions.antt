-- The first place at which a list's item passes a test, as the list grows, and as its end is cut off.
use Rattle.std.proofs.Common.{◌≡◌, ℕ, zero, suc, ◌+◌, ◌≤◌, Bool, true, false, cond, List, [], ◌∷◌, ◌++◌, length, take, Option, Some, None, refl, ap, sym, ◌∙◌, arith}
use Rattle.std.specs.Prelude.{position, nat_lt}
use Rattle.std.specs.List.{position_from}
use Rattle.std.proofs.lemmas.Iterator.Adapters.{position_from-zero}
use Rattle.std.proofs.lemmas.Bool.{lt-ltb}
use Rattle.std.proofs.lemmas.Map.Entries.{option_filter}

-- a place, or else the last one where its item passes
abbrev pub or_last : Option ℕ → Bool → ℕ → Option ℕ
or_last (Some n) b k = Some n
or_last None b k = cond b (Some k) None

next_place : (i n : ℕ) → i + 1 + n ≡ i + suc n
next_place i n = omega arith

this_place : (i : ℕ) → i ≡ i + 0
this_place i = omega arith

from_start : (n : ℕ) → 0 + n ≡ n
from_start n = omega arith

from_push : {A : Type 0} (p : A → Bool) (i : ℕ) (xs : List A) (y : A) → position_from p i (xs ++ y ∷ []) ≡ or_last (position_from p i xs) (p y) (i + length xs)
from_push p i [] y = ap (λ k. cond (p y) (Some k) None) (this_place i)
from_push p i (x ∷ xs) y =
    elim (p x) as (λ b. cond b (Some i) (position_from p (i + 1) (xs ++ y ∷ [])) ≡ or_last (cond b (Some i) (position_from p (i + 1) xs)) (p y) (i + suc (length xs))) [
      | true ↦ refl
      | false ↦ from_push p (i + 1) xs y ∙ ap (λ k. or_last (position_from p (i + 1) xs) (p y) k) (next_place i (length xs))
    ]

-- one more behind
pub position_push : {A : Type 0} (p : A → Bool) (xs : List A) (y : A) → position p (xs ++ y ∷ []) ≡ or_last (position p xs) (p y) (length xs)
position_push p xs y =
    position_from-zero p (xs ++ y ∷ []) ∙ from_push p 0 xs y ∙ ap (λ k. or_last (position_from p 0 xs) (p y) k) (from_start (length xs)) ∙ ap (λ o. or_last o (p y) (length xs)) (sym (position_from-zero p xs))

-- whether a place is below another
abbrev pub is_below : ℕ → ℕ → Bool
is_below k n = nat_lt n k

not_below : (n k : ℕ) → k ≤ n → nat_lt n k ≡ false
not_below n k h = grind arith

none_before : {A : Type 0} (p : A → Bool) (i k : ℕ) (xs : List A) → k ≤ i → option_filter (is_below k) (position_from p i xs) ≡ None
none_before p i k [] h = refl
none_before p i k (x ∷ xs) h =
    elim (p x) as (λ b. option_filter (is_below k) (cond b (Some i) (position_from p (i + 1) xs)) ≡ None) [
      | true ↦ ap (λ b. cond b (Some i) None) (not_below i k h)
      | false ↦ none_before p (i + 1) k xs (omega (arith, h))
    ]

below_next : (i k : ℕ) → nat_lt i (i + suc k) ≡ true
below_next i k = lt-ltb i (i + suc k) (omega arith)

from_take : {A : Type 0} (p : A → Bool) (i k : ℕ) (xs : List A) → position_from p i (take k xs) ≡ option_filter (is_below (i + k)) (position_from p i xs)
from_take p i zero xs = sym (none_before p i (i + 0) xs (omega arith))
from_take p i (suc k) [] = refl
from_take p i (suc k) (x ∷ xs) =
    elim (p x) as (λ b. cond b (Some i) (position_from p (i + 1) (take k xs)) ≡ option_filter (is_below (i + suc k)) (cond b (Some i) (position_from p (i + 1) xs))) [
      | true ↦ sym (ap (λ b. cond b (Some i) None) (below_next i k))
      | false ↦ from_take p (i + 1) k xs ∙ ap (λ n. option_filter (is_below n) (position_from p (i + 1) xs)) (next_place i k)
    ]

-- the first ones alone
pub position_take : {A : Type 0} (p : A → Bool) (k : ℕ) (xs : List A) → position p (take k xs) ≡ option_filter (is_below k) (position p xs)
position_take p k xs = position_from-zero p (take k xs) ∙ from_take p 0 k xs ∙ ap (λ n. option_filter (is_below n) (position_from p 0 xs)) (from_start k) ∙ ap (λ o. option_filter (is_below k) o) (sym (position_from-zero p xs))
