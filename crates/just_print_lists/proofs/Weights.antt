-- Sums over modules: of those that are kept, and of those in another order.
use Rattle.std.proofs.Common.{◌≡◌, ℕ, ◌+◌, ◌≤◌, Bool, true, false, cond, List, [], ◌∷◌, ◌++◌, reverse, refl, ap, ◌∙◌, arith}
use Rattle.std.specs.Prelude.{filter}
use Rattle.std.specs.Cmp.Lexicographic.{slice_cmp}
use Rattle.std.specs.Ordering.{nat_cmp, is_gt}
use Rattle.std.proofs.lemmas.List.{reverse-append}
use Rattle.just_print_lists.specs.Order.{placed, by_name, in_order}

none_more : (n : ℕ) → n ≡ 0 + n
none_more n = omega arith

added : (a b c : ℕ) → a + (b + c) ≡ (a + b) + c
added a b c = omega arith

turned : (a b : ℕ) → a + (b + 0) ≡ b + a
turned a b = omega arith

module _ {A : Type 0} (f : A → ℕ) where
  abbrev pub total : List A → ℕ
  total [] = 0
  total (x ∷ xs) = f x + total xs

  pub total_append : (xs ys : List A) → total (xs ++ ys) ≡ total xs + total ys
  total_append [] ys = none_more (total ys)
  total_append (x ∷ xs) ys = ap (λ n. f x + n) (total_append xs ys) ∙ added (f x) (total xs) (total ys)

  pub total_reverse : (xs : List A) → total (reverse xs) ≡ total xs
  total_reverse [] = refl
  total_reverse (x ∷ xs) = ap total (reverse-append (x ∷ []) xs) ∙ total_append (reverse xs) (x ∷ []) ∙ ap (λ n. n + total (x ∷ [])) (total_reverse xs) ∙ turned (total xs) (f x)

  pub total_filter : (p : A → Bool) (xs : List A) → total (filter p xs) ≤ total xs
  total_filter p [] = omega arith
  total_filter p (x ∷ xs) =
      let rest : total (filter p xs) ≤ total xs = total_filter p xs in
      elim (p x) as (λ b. total (cond b (x ∷ filter p xs) (filter p xs)) ≤ total (x ∷ xs)) [ true ↦ omega (arith, rest) | false ↦ omega (arith, rest) ]

  module _ (name : A → List ℕ) where
    total_placed : (x : A) (ys : List A) → total (placed name x ys) ≡ f x + total ys
    total_placed x [] = refl
    total_placed x (y ∷ ys) =
        let rest : total (placed name x ys) ≡ f x + total ys = total_placed x ys in
        elim (is_gt (slice_cmp nat_cmp (name x) (name y))) as (λ b. total (cond b (y ∷ placed name x ys) (x ∷ y ∷ ys)) ≡ f x + total (y ∷ ys)) [ true ↦ omega (arith, rest) | false ↦ refl ]

    total_by_name : (xs : List A) → total (by_name name xs) ≡ total xs
    total_by_name [] = refl
    total_by_name (x ∷ xs) = total_placed x (by_name name xs) ∙ ap (λ n. f x + n) (total_by_name xs)

    pub total_in_order : (unsorted : Bool) (xs : List A) → total (in_order name unsorted xs) ≡ total xs
    total_in_order true xs = refl
    total_in_order false xs = total_by_name xs
