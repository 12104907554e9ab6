-- The numbers of paths, as they grow.
use Rattle.std.proofs.Common.{◌≡◌, ℕ, suc, ◌+◌, ◌<◌, ◌≤◌, Bool, true, false, cond, List, [], ◌∷◌, ◌++◌, length, take, get_or, Option, Some, None, bytes_eq, refl, ap, sym, ◌∙◌, subst, length-take-le, take_all, arith}
use Rattle.std.specs.Prelude.{position}
use Rattle.std.specs.List.{position_from}
use Rattle.std.specs.BTreeMap.{BTreeMap, get, Updates, is_at}
use Rattle.std.specs.Cmp.Lexicographic.{slice_cmp}
use Rattle.std.specs.Map.{lookup}
use Rattle.std.specs.Option.{unwrap_or}
use Rattle.std.specs.Ordering.{nat_cmp}
use Rattle.std.proofs.lemmas.Iterator.Adapters.{position_from-zero}
use Rattle.std.proofs.lemmas.Map.Text.{is_eq-slice_cmp}
use Rattle.std.proofs.lemmas.Slice.Eq.{bytes_eq-Decides}
use Rattle.just_lang_layout.specs.Targets.{number_of}
use Rattle.just_lang_layout.specs.Numbers.{AreNumbers}
use Rattle.just_lang_layout.proofs.Lists.{front_more}

-- a place, or else the last one where its item passes
abbrev or_last : Option ℕ → Bool → ℕ → Option ℕ
or_last (Some n) b k = Some n
or_last None b k = cond b (Some k) None

next_place : (i n : ℕ) → i + 1 + n ≡ i + suc n
next_place i n = omega arith

this_place : (i : ℕ) → i ≡ i + 0
this_place i = omega arith

from_start : (n : ℕ) → 0 + n ≡ n
from_start n = omega arith

from_push : {A : Type 0} (p : A → Bool) (i : ℕ) (xs : List A) (y : A) → position_from p i (xs ++ y ∷ []) ≡ or_last (position_from p i xs) (p y) (i + length xs)
from_push p i [] y = ap (λ k. cond (p y) (Some k) None) (this_place i)
from_push p i (x ∷ xs) y =
    elim (p x) as (λ b. cond b (Some i) (position_from p (i + 1) (xs ++ y ∷ [])) ≡ or_last (cond b (Some i) (position_from p (i + 1) xs)) (p y) (i + suc (length xs))) [
      | true ↦ refl
      | false ↦ from_push p (i + 1) xs y ∙ ap (λ k. or_last (position_from p (i + 1) xs) (p y) k) (next_place i (length xs))
    ]

-- one more behind
position_push : {A : Type 0} (p : A → Bool) (xs : List A) (y : A) → position p (xs ++ y ∷ []) ≡ or_last (position p xs) (p y) (length xs)
position_push p xs y =
    position_from-zero p (xs ++ y ∷ []) ∙ from_push p 0 xs y ∙ ap (λ k. or_last (position_from p 0 xs) (p y) k) (from_start (length xs)) ∙ ap (λ o. or_last o (p y) (length xs)) (sym (position_from-zero p xs))

-- what is kept where there is something, and else the new number
kept_or_new : (b : Bool) (o : Option ℕ) (k : ℕ) → cond b (Some (unwrap_or o k)) o ≡ or_last o b k
kept_or_new true None k = refl
kept_or_new true (Some n) k = refl
kept_or_new false None k = refl
kept_or_new false (Some n) k = refl

-- what the map has at a path, where it got a number at another
module _ (m : BTreeMap (List ℕ) ℕ) (y q : List ℕ) (k : ℕ) where
  at_path : (b : Bool) → bytes_eq y q ≡ b → cond b (Some (unwrap_or (get (slice_cmp nat_cmp) m y) k)) (get (slice_cmp nat_cmp) m q) ≡ or_last (get (slice_cmp nat_cmp) m q) b k
  at_path true h = ap (λ t. Some (unwrap_or (get (slice_cmp nat_cmp) m t) k)) ((bytes_eq-Decides y q).0 h) ∙ kept_or_new true (get (slice_cmp nat_cmp) m q) k
  at_path false h = kept_or_new false (get (slice_cmp nat_cmp) m q) k

-- one more path has its number, unless it had one
numbers_push : (xs : List (List ℕ)) (m n : BTreeMap (List ℕ) ℕ) (y : List ℕ) → AreNumbers xs m → Updates (slice_cmp nat_cmp) m n y (Some (unwrap_or (get (slice_cmp nat_cmp) m y) (length xs))) → AreNumbers (xs ++ y ∷ []) n
numbers_push xs m n y are updates q =
    updates.0 q
    ∙ ap (λ b. cond b (Some (unwrap_or (get (slice_cmp nat_cmp) m y) (length xs))) (get (slice_cmp nat_cmp) m q)) (is_eq-slice_cmp y q)
    ∙ at_path m y q (length xs) (bytes_eq y q) refl
    ∙ ap (λ o. or_last o (bytes_eq y q) (length xs)) (are q)
    ∙ sym (position_push (λ p. bytes_eq p q) xs y)

-- a map without entries is that of no paths
pub numbers_none : (paths : List (List ℕ)) (m : BTreeMap (List ℕ) ℕ) → m.entries ≡ [] → AreNumbers (take 0 paths) m
numbers_none paths m e q = ap (λ es. lookup (is_at (slice_cmp nat_cmp q)) es) e

front_length : (xs : List (List ℕ)) (i : ℕ) → i < length xs → length (take i xs) ≡ i
front_length xs i h = length-take-le i xs (omega arith)

-- the numbers of the paths so far, and that of a copy of the next
pub numbers_more : (paths : List (List ℕ)) (i : ℕ) (m n : BTreeMap (List ℕ) ℕ) (x y : List ℕ) → i < length paths → x ≡ get_or paths i x → y ≡ x → AreNumbers (take i paths) m → Updates (slice_cmp nat_cmp) m n y (Some (unwrap_or (get (slice_cmp nat_cmp) m y) i)) → AreNumbers (take (i + 1) paths) n
numbers_more paths i m n x y lt is same are updates =
    let put : Updates (slice_cmp nat_cmp) m n x (Some (unwrap_or (get (slice_cmp nat_cmp) m x) i)) = subst (λ (z : List ℕ). Updates (slice_cmp nat_cmp) m n z (Some (unwrap_or (get (slice_cmp nat_cmp) m z) i))) same updates in
    subst (λ (xs : List (List ℕ)). AreNumbers xs n) (front_more paths i x lt is)
    (numbers_push (take i paths) m n x are (subst (λ (k : ℕ). Updates (slice_cmp nat_cmp) m n x (Some (unwrap_or (get (slice_cmp nat_cmp) m x) k))) (sym (front_length paths i lt)) put))

-- the numbers of all paths
pub numbers_end : (paths : List (List ℕ)) (i : ℕ) (m : BTreeMap (List ℕ) ℕ) → length paths ≤ i → AreNumbers (take i paths) m → AreNumbers paths m
numbers_end paths i m le are = subst (λ (xs : List (List ℕ)). AreNumbers xs m) (take_all i paths le) are
