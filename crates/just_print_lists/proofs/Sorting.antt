-- Keys in order are the keys put in order one by one, and the items at their places are those in the order of their names.
use Rattle.std.proofs.Common.{◌≡◌, ℕ, zero, suc, ◌+◌, ◌<◌, Bool, true, false, true≢false, cond, List, [], ◌∷◌, ◌++◌, map, length, get_or, Some, sum_by, IsPermutation, IsSorted, Ordering, Less, Equal, Greater, is_lt, nat_cmp, refl, sym, ap, ◌∙◌, subst, arith, append_assoc, add-one, drop, drop-cons}
use Rattle.std.specs.Prelude.{slice_get}
use Rattle.std.specs.Cmp.{IsTotalOrder}
use Rattle.std.specs.Cmp.Lexicographic.{slice_cmp}
use Rattle.std.specs.List.{AllByRecursion, flat_map}
use Rattle.std.specs.Ordering.{ordering_reverse, ordering_then, is_gt}
use Rattle.std.proofs.lemmas.Cmp.{nat_list_cmp_total, nat_cmp_total, then_total, on_total}
use Rattle.std.proofs.lemmas.List.{length_push}
use Rattle.std.proofs.lemmas.List.Sorted.{sum_by-IsPermutation}
use Rattle.std.proofs.lemmas.List.Sums.{sum_by-cons}
use Rattle.std.proofs.lemmas.Map.Lookups.{CmpEqualImpliesEq, exact_bytes, exact_unsigned, exact_pairs}
use Rattle.std.proofs.lemmas.Bool.Decides.{nat_tests}
use Rattle.just_print_lists.specs.Order.{placed, by_name, keys_from, only_some}
use Rattle.just_print_lists.proofs.OneOrder.{sorted_rest, same_order}

-- ---- one by one

module _ {K : Type 0} (R : K → K → Ordering) where
  abbrev put : K → List K → List K
  put x [] = x ∷ []
  put x (y ∷ ys) = cond (is_gt (R x y)) (y ∷ put x ys) (x ∷ y ∷ ys)

  abbrev sorted : List K → List K
  sorted [] = []
  sorted (x ∷ xs) = put x (sorted xs)

  put_sum : (f : K → ℕ) (x : K) (ys : List K) → sum_by f (put x ys) ≡ f x + sum_by f ys
  put_sum f x [] = sum_by-cons f x []
  put_sum f x (y ∷ ys) =
      elim (is_gt (R x y)) as (λ b. sum_by f (cond b (y ∷ put x ys) (x ∷ y ∷ ys)) ≡ f x + sum_by f (y ∷ ys)) [
        | true ↦
            let one : sum_by f (y ∷ put x ys) ≡ f y + sum_by f (put x ys) = sum_by-cons f y (put x ys) in
            let two : sum_by f (put x ys) ≡ f x + sum_by f ys = put_sum f x ys in
            let three : sum_by f (y ∷ ys) ≡ f y + sum_by f ys = sum_by-cons f y ys in
            omega (arith, one, two, three)
        | false ↦ sum_by-cons f x (y ∷ ys)
      ]

  sorted_sum : (f : K → ℕ) (xs : List K) → sum_by f (sorted xs) ≡ sum_by f xs
  sorted_sum f [] = refl
  sorted_sum f (x ∷ xs) =
      let one : sum_by f (put x (sorted xs)) ≡ f x + sum_by f (sorted xs) = put_sum f x (sorted xs) in
      let two : sum_by f (sorted xs) ≡ sum_by f xs = sorted_sum f xs in
      let three : sum_by f (x ∷ xs) ≡ f x + sum_by f xs = sum_by-cons f x xs in
      omega (arith, one, two, three)

-- ---- in order

not_less : (o : Ordering) → is_gt o ≡ true → is_lt o ≡ false
not_less Less h = absurd (true≢false (sym h))
not_less Equal h = absurd (true≢false (sym h))
not_less Greater h = refl

turned : (o : Ordering) → is_gt o ≡ false → is_lt (ordering_reverse o) ≡ false
turned Less h = refl
turned Equal h = refl
turned Greater h = absurd (true≢false h)

module _ {K : Type 0} (R : K → K → Ordering) (o : IsTotalOrder R) (exact : CmpEqualImpliesEq R) where
  -- the first of a list doesn't come before x
  abbrev Follows : K → List K → Type 0
  Follows x [] = Unit {0}
  Follows x (y ∷ ys) = is_lt (R y x) ≡ false

  sorted_more : (x : K) (ys : List K) → Follows x ys → IsSorted R ys → IsSorted R (x ∷ ys)
  sorted_more x [] f s k d a b = absurd (omega (arith, b))
  sorted_more x (y ∷ ys) f s zero d a b = f
  sorted_more x (y ∷ ys) f s (suc k) d a b =
      let next : suc (k + 1) ≡ suc k + 1 = omega arith in
      subst (λ n. is_lt (R (get_or (x ∷ y ∷ ys) n d) (get_or (y ∷ ys) k d)) ≡ false) next (s k d (omega arith) (omega (arith, b)))

  follows_first : (y : K) (ys : List K) → IsSorted R (y ∷ ys) → Follows y ys
  follows_first y [] s = tt
  follows_first y (z ∷ ys) s = s 0 y (omega arith) (omega arith)

  follows_put : (x y : K) (ys : List K) → is_lt (R x y) ≡ false → Follows y ys → Follows y (put R x ys)
  follows_put x y [] h f = h
  follows_put x y (z ∷ ys) h f = elim (is_gt (R x z)) as (λ b. Follows y (cond b (z ∷ put R x ys) (x ∷ z ∷ ys))) [ true ↦ f | false ↦ h ]

  put_sorted : (x : K) (ys : List K) → IsSorted R ys → IsSorted R (put R x ys)
  put_sorted x [] s = sorted_more x [] tt s
  put_sorted x (y ∷ ys) s = go (is_gt (R x y)) refl (put_sorted x ys (sorted_rest R o exact y ys s))
    where
      go : (b : Bool) → is_gt (R x y) ≡ b → IsSorted R (put R x ys) → IsSorted R (cond b (y ∷ put R x ys) (x ∷ y ∷ ys))
      go true e more = sorted_more y (put R x ys) (follows_put x y ys (not_less (R x y) e) (follows_first y ys s)) more
      go false e more = sorted_more x (y ∷ ys) (ap is_lt (o.antisymm y x) ∙ turned (R x y) e) s

  sorted_is : (xs : List K) → IsSorted R (sorted R xs)
  sorted_is [] = λ k d a b. absurd (omega (arith, b))
  sorted_is (x ∷ xs) = put_sorted x (sorted R xs) (sorted_is xs)

  -- a list in order is the list put in order one by one
  pub one_by_one : (xs ys : List K) → IsPermutation xs ys → IsSorted R ys → ys ≡ sorted R xs
  one_by_one xs ys p s = same_order R o exact ys (sorted R xs) (λ f. sum_by-IsPermutation f xs ys p ∙ sym (sorted_sum R f xs)) s (sorted_is xs)

-- ---- keys

abbrev pub Key : Type 0
Key = List ℕ × ℕ

abbrev pub key_cmp : Key → Key → Ordering
key_cmp a b = ordering_then (slice_cmp nat_cmp a.0 b.0) (nat_cmp a.1 b.1)

pub keys_total : IsTotalOrder key_cmp
keys_total = then_total (on_total (λ (k : Key). k.0) nat_list_cmp_total) (on_total (λ (k : Key). k.1) nat_cmp_total)

exact_keys : CmpEqualImpliesEq key_cmp
exact_keys = exact_pairs (slice_cmp nat_cmp) nat_cmp exact_bytes exact_unsigned

less_here : (n m : ℕ) → n < m → nat_cmp n m ≡ Less
less_here n m h = grind (arith, nat_tests)

by_first : (o : Ordering) → is_gt (ordering_then o Less) ≡ is_gt o
by_first Less = refl
by_first Equal = refl
by_first Greater = refl

-- ---- items with their places

module _ {A : Type 0} (name : A → List ℕ) where
  abbrev key : A × ℕ → Key
  key p = (name p.0, p.1)

  abbrev pair_cmp : A × ℕ → A × ℕ → Ordering
  pair_cmp p q = key_cmp (key p) (key q)

  abbrev placed_from : ℕ → List A → List (A × ℕ)
  placed_from n [] = []
  placed_from n (x ∷ xs) = (x, n) ∷ placed_from (suc n) xs

  keys_are : (n : ℕ) (xs : List A) → keys_from name n xs ≡ map key (placed_from n xs)
  keys_are n [] = refl
  keys_are n (x ∷ xs) = ap (λ ks. (name x, n) ∷ ks) (keys_are (suc n) xs)

  put_keys : (p : A × ℕ) (ps : List (A × ℕ)) → put key_cmp (key p) (map key ps) ≡ map key (put pair_cmp p ps)
  put_keys p [] = refl
  put_keys p (q ∷ ps) =
      elim (is_gt (pair_cmp p q)) as (λ b. cond b (key q ∷ put key_cmp (key p) (map key ps)) (key p ∷ key q ∷ map key ps) ≡ map key (cond b (q ∷ put pair_cmp p ps) (p ∷ q ∷ ps)))
      [ true ↦ ap (λ ks. key q ∷ ks) (put_keys p ps) | false ↦ refl ]

  sorted_keys : (ps : List (A × ℕ)) → sorted key_cmp (map key ps) ≡ map key (sorted pair_cmp ps)
  sorted_keys [] = refl
  sorted_keys (p ∷ ps) = ap (put key_cmp (key p)) (sorted_keys ps) ∙ put_keys p (sorted pair_cmp ps)

  all_put : (P : A × ℕ → Type 0) (p : A × ℕ) (ps : List (A × ℕ)) → P p → AllByRecursion P ps → AllByRecursion P (put pair_cmp p ps)
  all_put P p [] h all = (h, tt)
  all_put P p (q ∷ ps) h all =
      elim (is_gt (pair_cmp p q)) as (λ b. AllByRecursion P (cond b (q ∷ put pair_cmp p ps) (p ∷ q ∷ ps))) [ true ↦ (all.0, all_put P p ps h all.1) | false ↦ (h, all) ]

  all_sorted : (P : A × ℕ → Type 0) (ps : List (A × ℕ)) → AllByRecursion P ps → AllByRecursion P (sorted pair_cmp ps)
  all_sorted P [] all = tt
  all_sorted P (p ∷ ps) all = all_put P p (sorted pair_cmp ps) all.0 (all_sorted P ps all.1)

  above_from : (n m : ℕ) (xs : List A) → n < m → AllByRecursion (λ (p : A × ℕ). n < p.1) (placed_from m xs)
  above_from n m [] h = tt
  above_from n m (x ∷ xs) h = (h, above_from n (suc m) xs (omega (arith, h)))

  put_items : (p : A × ℕ) (ps : List (A × ℕ)) → AllByRecursion (λ (q : A × ℕ). p.1 < q.1) ps → map (λ (q : A × ℕ). q.0) (put pair_cmp p ps) ≡ placed name p.0 (map (λ (q : A × ℕ). q.0) ps)
  put_items p [] above = refl
  put_items p (q ∷ ps) above =
      let names : Ordering = slice_cmp nat_cmp (name p.0) (name q.0) in
      let same : is_gt (pair_cmp p q) ≡ is_gt names = ap (λ o. is_gt (ordering_then names o)) (less_here p.1 q.1 above.0) ∙ by_first names in
      ap (λ b. map (λ (r : A × ℕ). r.0) (cond b (q ∷ put pair_cmp p ps) (p ∷ q ∷ ps))) same
      ∙ elim (is_gt names) as (λ b. map (λ (r : A × ℕ). r.0) (cond b (q ∷ put pair_cmp p ps) (p ∷ q ∷ ps)) ≡ cond b (q.0 ∷ placed name p.0 (map (λ (r : A × ℕ). r.0) ps)) (p.0 ∷ q.0 ∷ map (λ (r : A × ℕ). r.0) ps))
      [ true ↦ ap (λ l. q.0 ∷ l) (put_items p ps above.1) | false ↦ refl ]

  sorted_items : (n : ℕ) (xs : List A) → map (λ (p : A × ℕ). p.0) (sorted pair_cmp (placed_from n xs)) ≡ by_name name xs
  sorted_items n [] = refl
  sorted_items n (x ∷ xs) =
      put_items (x, n) (sorted pair_cmp (placed_from (suc n) xs)) (all_sorted (λ (p : A × ℕ). n < p.1) (placed_from (suc n) xs) (above_from n (suc n) xs (omega arith)))
      ∙ ap (placed name x) (sorted_items (suc n) xs)

  -- each item is the one at its place
  abbrev StandsIn : List A → A × ℕ → Type 0
  StandsIn xs p = slice_get xs p.1 ≡ Some p.0

  got_behind : (front : List A) (x : A) (xs : List A) (n : ℕ) → n ≡ length front → slice_get (front ++ x ∷ xs) n ≡ Some x
  got_behind [] x xs zero h = refl
  got_behind [] x xs (suc n) h = absurd (omega (arith, h))
  got_behind (y ∷ front) x xs zero h = absurd (omega (arith, h))
  got_behind (y ∷ front) x xs (suc n) h = got_behind front x xs n (omega (arith, h))

  stand_behind : (front xs : List A) (n : ℕ) → n ≡ length front → AllByRecursion (StandsIn (front ++ xs)) (placed_from n xs)
  stand_behind front [] n h = tt
  stand_behind front (x ∷ xs) n h =
      let size : length (front ++ x ∷ []) ≡ length front + 1 = length_push front x in
      (got_behind front x xs n h, subst (λ l. AllByRecursion (StandsIn l) (placed_from (suc n) xs)) (append_assoc front (x ∷ []) xs) (stand_behind (front ++ x ∷ []) xs (suc n) (omega (arith, h, size))))

  found : (xs : List A) (ps : List (A × ℕ)) → AllByRecursion (StandsIn xs) ps → flat_map (λ (k : Key). only_some (slice_get xs k.1)) (map key ps) ≡ map (λ (p : A × ℕ). p.0) ps
  found xs [] all = refl
  found xs (p ∷ ps) all =
      ap (λ o. only_some o ++ flat_map (λ (k : Key). only_some (slice_get xs k.1)) (map key ps)) all.0 ∙ ap (λ l. p.0 ∷ l) (found xs ps all.1)

  -- the items at the places of the keys in order are those in the order of their names
  pub items_by_name : (xs : List A) (keys ks : List Key) (items : List A) → keys ≡ keys_from name 0 xs → IsPermutation keys ks → IsSorted key_cmp ks
      → items ≡ flat_map (λ (k : Key). only_some (slice_get xs k.1)) ks → items ≡ by_name name xs
  items_by_name xs keys ks items are moved up is =
      let ps : List (A × ℕ) = placed_from 0 xs in
      let in_turn : ks ≡ map key (sorted pair_cmp ps) = one_by_one key_cmp keys_total exact_keys keys ks moved up ∙ ap (sorted key_cmp) (are ∙ keys_are 0 xs) ∙ sorted_keys ps in
      is ∙ ap (λ l. flat_map (λ (k : Key). only_some (slice_get xs k.1)) l) in_turn ∙ found xs (sorted pair_cmp ps) (all_sorted (StandsIn xs) ps (stand_behind [] xs 0 refl)) ∙ sorted_items 0 xs

  -- ---- keys, one more at a time

  drop_here : (xs : List A) (i : ℕ) (x : A) → i < length xs → x ≡ get_or xs i x → drop i xs ≡ x ∷ drop (i + 1) xs
  drop_here xs i x h e = rw add-one (drop-cons xs i x h ∙ ap (λ y. y ∷ drop (suc i) xs) (sym e))

  keys_here : (xs : List A) (i : ℕ) (x : A) → i < length xs → x ≡ get_or xs i x → keys_from name i (drop i xs) ≡ (name x, i) ∷ keys_from name (i + 1) (drop (i + 1) xs)
  keys_here xs i x h e = ap (keys_from name i) (drop_here xs i x h e) ∙ ap (λ n. (name x, i) ∷ keys_from name n (drop (i + 1) xs)) (sym (add-one i))

  pub keys_more : (xs : List A) (i : ℕ) (x : A) (old new whole : List Key) (k : Key) → i < length xs → x ≡ get_or xs i x → k ≡ (name x, i) → new ≡ old ++ k ∷ []
      → old ++ keys_from name i (drop i xs) ≡ whole → new ++ keys_from name (i + 1) (drop (i + 1) xs) ≡ whole
  keys_more xs i x old new whole k h e is more goes =
      let rest : List Key = keys_from name (i + 1) (drop (i + 1) xs) in
      ap (λ l. l ++ rest) more ∙ append_assoc old (k ∷ []) rest ∙ ap (λ one. old ++ one ∷ rest) is ∙ ap (λ l. old ++ l) (sym (keys_here xs i x h e)) ∙ goes
