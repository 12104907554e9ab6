-- Sums over numbers in a row, and over the nodes of a plan.
use Rattle.std.proofs.Common.{◌≡◌, ℕ, zero, suc, ◌+◌, ◌<◌, ◌≤◌, ◌==◌, Bool, true, false, cond, List, [], ◌∷◌, length, slice_get, Some, sum_by, refl, ap, ap₂, sym, ◌∙◌, subst, arith, eqb-true, eq-eqb}
use borrow.Author.Tests.{eqb-false}
use Rattle.std.specs.List.{range_with_len}
use Rattle.std.proofs.lemmas.List.Sums.{sum_by-cons}
use Rattle.just_sched_history.specs.declared.plan_node.PlanNode.{PlanNode}
use Rattle.just_sched_history.proofs.Others.{apart}

-- a sum of no greater items is no greater
pub sum_le : (f g : ℕ → ℕ) (a n : ℕ) → ((k : ℕ) → a ≤ k → k < a + n → f k ≤ g k) → sum_by f (range_with_len a n) ≤ sum_by g (range_with_len a n)
sum_le f g a zero h = omega arith
sum_le f g a (suc n) h =
    let here = h a (omega arith) (omega arith) in
    let rest = sum_le f g (a + 1) n (λ k p q. h k (omega (arith, p)) (omega (arith, q))) in
    omega (arith, sum_by-cons f a (range_with_len (a + 1) n), sum_by-cons g a (range_with_len (a + 1) n), here, rest)

-- sums of equal items are equal
pub sum_same : (f g : ℕ → ℕ) (a n : ℕ) → ((k : ℕ) → a ≤ k → k < a + n → f k ≡ g k) → sum_by f (range_with_len a n) ≡ sum_by g (range_with_len a n)
sum_same f g a n h =
    let le = sum_le f g a n (λ k p q. omega (arith, h k p q)) in
    let ge = sum_le g f a n (λ k p q. omega (arith, h k p q)) in
    omega (arith, le, ge)

-- a sum of sums is the sum of the sums
pub sum_add : {A : Type 0} (f g : A → ℕ) (xs : List A) → sum_by (λ k. f k + g k) xs ≡ sum_by f xs + sum_by g xs
sum_add f g [] = omega arith
sum_add f g (x ∷ xs) = omega (arith, sum_by-cons (λ k. f k + g k) x xs, sum_by-cons f x xs, sum_by-cons g x xs, sum_add f g xs)

-- none of the numbers behind m is m
hot_none : (m a n : ℕ) → m < a → sum_by (λ k. cond (m == k) 1 0) (range_with_len a n) ≡ 0
hot_none m a zero lt = refl
hot_none m a (suc n) lt =
    sum_by-cons (λ k. cond (m == k) 1 0) a (range_with_len (a + 1) n) ∙ ap₂ (λ b k. cond b 1 0 + k) (apart m a (λ e. omega (arith, e, lt))) (hot_none m (a + 1) n (omega (arith, lt)))

-- one of them is m, by the first
one_hot_at : (m a n : ℕ) (b : Bool) → (m == a) ≡ b → a ≤ m → m < a + suc n → ((a + 1 ≤ m) → sum_by (λ k. cond (m == k) 1 0) (range_with_len (a + 1) n) ≡ 1) → cond b 1 0 + sum_by (λ k. cond (m == k) 1 0) (range_with_len (a + 1) n) ≡ 1
one_hot_at m a n true q low high rest = omega (arith, hot_none m (a + 1) n (omega (arith, eqb-true m a q)))
one_hot_at m a n false q low high rest = omega (arith, rest (omega (arith, low, eqb-false m a q)))

-- one of them is m
pub one_hot : (m a n : ℕ) → a ≤ m → m < a + n → sum_by (λ k. cond (m == k) 1 0) (range_with_len a n) ≡ 1
one_hot m a zero low high = absurd (omega (arith, low, high))
one_hot m a (suc n) low high =
    sum_by-cons (λ k. cond (m == k) 1 0) a (range_with_len (a + 1) n) ∙ one_hot_at m a n (m == a) refl low high (λ p. one_hot m (a + 1) n p (omega (arith, high)))

-- an item that is less, by its place
sum_lt_at : (f g : ℕ → ℕ) (m k : ℕ) (b : Bool) → (m == k) ≡ b → f k ≤ g k → f m < g m → f k + cond (m == k) 1 0 ≤ g k
sum_lt_at f g m k true q le lt = subst (λ j. f j + cond (m == j) 1 0 ≤ g j) (eqb-true m k q) (omega (arith, ap {B = ℕ} (λ b. cond b 1 0) (eq-eqb m m refl), lt))
sum_lt_at f g m k false q le lt = omega (arith, ap {B = ℕ} (λ b. cond b 1 0) q, le)

-- a sum with one lesser item is less
pub sum_lt : (f g : ℕ → ℕ) (m a n : ℕ) → ((k : ℕ) → a ≤ k → k < a + n → f k ≤ g k) → a ≤ m → m < a + n → f m < g m → sum_by f (range_with_len a n) < sum_by g (range_with_len a n)
sum_lt f g m a n h low high lt =
    let le = sum_le (λ k. f k + cond (m == k) 1 0) g a n (λ k p q. sum_lt_at f g m k (m == k) refl (h k p q) lt) in
    let one = one_hot m a n low high in
    omega (arith, le, one, sum_add f (λ k. cond (m == k) 1 0) (range_with_len a n))

-- the sum over the nodes of a plan, by their numbers
pub sum_nodes : (g : PlanNode → ℕ) (f : ℕ → ℕ) (nodes : List PlanNode) (a : ℕ) → ((k : ℕ) (x : PlanNode) → slice_get nodes k ≡ Some x → f (a + k) ≡ g x) → sum_by f (range_with_len a (length nodes)) ≡ sum_by g nodes
sum_nodes g f [] a h = refl
sum_nodes g f (x ∷ nodes) a h =
    let here : f a ≡ g x = subst (λ k. f k ≡ g x) (omega arith) (h 0 x refl) in
    let rest = sum_nodes g f nodes (a + 1) (λ k y q. subst (λ j. f j ≡ g y) (omega arith) (h (suc k) y q)) in
    sum_by-cons f a (range_with_len (a + 1) (length nodes)) ∙ ap₂ (λ i j. i + j) here rest ∙ sym (sum_by-cons g x nodes)

-- a sum of zeros is 0
pub sum_zero : (n a : ℕ) → sum_by (λ (k : ℕ). 0) (range_with_len a n) ≡ 0
sum_zero zero a = refl
sum_zero (suc n) a = sum_by-cons (λ (k : ℕ). 0) a (range_with_len (a + 1) n) ∙ ap (λ k. 0 + k) (sum_zero n (a + 1))
