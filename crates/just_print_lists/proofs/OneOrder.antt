-- A list has one order.
use Rattle.std.proofs.Common.{◌≡◌, ℕ, suc, ◌+◌, ◌<◌, Bool, true, false, true≢false, cond, List, [], ◌∷◌, length, get_or, sum_by, IsSorted, Ordering, Less, Equal, Greater, is_lt, refl, sym, ap, ◌∙◌, subst, arith}
use Rattle.std.specs.Cmp.{IsTotalOrder}
use Rattle.std.specs.Ordering.{ordering_reverse}
use Rattle.std.proofs.lemmas.List.MinMax.{ranks_by}
use Rattle.std.proofs.lemmas.List.Sorted.{sorted_far}
use Rattle.std.proofs.lemmas.List.Sums.{sum_by-cons}
use Rattle.std.proofs.lemmas.Map.Lookups.{CmpEqualImpliesEq}

-- how many a test counts
abbrev counted : Bool → ℕ
counted b = cond b 1 0

none_counted : (b : Bool) → counted b ≡ 0 → b ≡ false
none_counted true h = absurd (omega (arith, h))
none_counted false h = refl

-- neither of two answers is `Less`, and each is the other one turned round
both_equal : (a b : Ordering) → a ≡ ordering_reverse b → is_lt a ≡ false → is_lt b ≡ false → a ≡ Equal
both_equal Less b e p q = absurd (true≢false p)
both_equal Equal b e p q = refl
both_equal Greater Less e p q = absurd (true≢false q)
both_equal Greater Equal e p q = e
both_equal Greater Greater e p q = absurd (true≢false (sym (ap is_lt e)))

module _ {K : Type 0} (R : K → K → Ordering) (o : IsTotalOrder R) (exact : CmpEqualImpliesEq R) where
  -- one, where the second comes before the first
  abbrev lower : K → K → ℕ
  lower x y = counted (is_lt (R y x))

  -- all sums over two lists are the same
  abbrev pub AreAlike : List K → List K → Type 0
  AreAlike xs ys = (f : K → ℕ) → sum_by f xs ≡ sum_by f ys

  none_lower : (x : K) (xs : List K) → ((i : ℕ) (d : K) → i < length xs → is_lt (R (get_or xs i d) x) ≡ false) → sum_by (lower x) xs ≡ 0
  none_lower x [] h = refl
  none_lower x (y ∷ ys) h =
      let here : lower x y ≡ 0 = ap counted (h 0 y (omega arith)) in
      let rest : sum_by (lower x) ys ≡ 0 = none_lower x ys (λ i d l. h (suc i) d (omega (arith, l))) in
      sum_by-cons (lower x) y ys ∙ omega (arith, here, rest)

  -- none of a list in order comes before the first
  first_low : (x : K) (xs : List K) → IsSorted R (x ∷ xs) → sum_by (lower x) (x ∷ xs) ≡ 0
  first_low x xs s = none_lower x (x ∷ xs) (λ i d l. sorted_far (λ a b. is_lt (R a b)) (ranks_by o (λ (a : K). a)) (x ∷ xs) s 0 i d (omega arith) l)

  not_lower : (x y : K) (ys : List K) → sum_by (lower x) (y ∷ ys) ≡ 0 → is_lt (R y x) ≡ false
  not_lower x y ys h =
      let parts : sum_by (lower x) (y ∷ ys) ≡ lower x y + sum_by (lower x) ys = sum_by-cons (lower x) y ys in
      let none : lower x y ≡ 0 = omega (arith, h, parts) in
      none_counted (is_lt (R y x)) none

  pub sorted_rest : (x : K) (xs : List K) → IsSorted R (x ∷ xs) → IsSorted R xs
  sorted_rest x xs s = λ k d a b.
      let next : suc k + 1 ≡ suc (k + 1) = omega arith in
      subst (λ n. is_lt (R (get_or (x ∷ xs) n d) (get_or xs k d)) ≡ false) next (s (suc k) d (omega arith) (omega (arith, b)))

  none_alike : (y : K) (ys : List K) → AreAlike [] (y ∷ ys) → ⊥
  none_alike y ys a =
      let none : 0 ≡ sum_by (λ (z : K). 1) (y ∷ ys) = a (λ z. 1) in
      let more : sum_by (λ (z : K). 1) (y ∷ ys) ≡ 1 + sum_by (λ (z : K). 1) ys = sum_by-cons (λ z. 1) y ys in
      omega (arith, none, more)

  -- two lists in order of which all sums are the same
  pub same_order : (xs ys : List K) → AreAlike xs ys → IsSorted R xs → IsSorted R ys → xs ≡ ys
  same_order [] [] a p q = refl
  same_order [] (y ∷ ys) a p q = absurd (none_alike y ys a)
  same_order (x ∷ xs) [] a p q = absurd (none_alike x xs (λ f. sym (a f)))
  same_order (x ∷ xs) (y ∷ ys) a p q =
      let low : is_lt (R y x) ≡ false = not_lower x y ys (sym (a (lower x)) ∙ first_low x xs p) in
      let high : is_lt (R x y) ≡ false = not_lower y x xs (a (lower y) ∙ first_low y ys q) in
      let one : x ≡ y = exact x y (both_equal (R x y) (R y x) (o.antisymm x y) high low) in
      let rest : AreAlike xs ys = λ f.
      let left : sum_by f (x ∷ xs) ≡ f x + sum_by f xs = sum_by-cons f x xs in
      let right : sum_by f (y ∷ ys) ≡ f y + sum_by f ys = sum_by-cons f y ys in
      let whole : sum_by f (x ∷ xs) ≡ sum_by f (y ∷ ys) = a f in
      let first : f x ≡ f y = ap f one in
      omega (arith, left, right, whole, first) in
      ap (λ z. z ∷ xs) one ∙ ap (λ zs. y ∷ zs) (same_order xs ys rest (sorted_rest x xs p) (sorted_rest y ys q))
