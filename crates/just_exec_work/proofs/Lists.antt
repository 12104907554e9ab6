-- Lists that are gone through item by item.
use Rattle.std.proofs.Common.{◌≡◌, ℕ, suc, ◌+◌, ◌<◌, ◌≤◌, Bool, true, false, cond, List, [], ◌∷◌, ◌++◌, map, length, drop, get_or, drop-cons, append-nil, append_assoc, sym, ap, ◌∙◌, arith}
use Rattle.std.specs.List.{filter, flat_map}
use Rattle.std.proofs.lemmas.List.{drop_all}

module _ {A : Type 0} (xs : List A) (n : ℕ) (x : A) (lt : n < length xs) (is : x ≡ get_or xs n x) where
  one : n + 1 ≡ suc n
  one = omega arith

  here : drop n xs ≡ x ∷ drop (suc n) xs
  here = drop-cons xs n x lt ∙ ap (λ z. z ∷ drop (suc n) xs) (sym is)

  -- one more is added as it is
  pub added_more : (done : List A) → (done ++ x ∷ []) ++ drop (n + 1) xs ≡ done ++ drop n xs
  added_more done = ap (λ k. (done ++ x ∷ []) ++ drop k xs) one ∙ append_assoc done (x ∷ []) (drop (suc n) xs) ∙ sym (ap (λ zs. done ++ zs) here)

  -- what one more gives is added
  pub mapped_more : {B : Type 0} (f : A → B) (done : List B) → (done ++ f x ∷ []) ++ map f (drop (n + 1) xs) ≡ done ++ map f (drop n xs)
  mapped_more f done = ap (λ k. (done ++ f x ∷ []) ++ map f (drop k xs)) one ∙ append_assoc done (f x ∷ []) (map f (drop (suc n) xs)) ∙ sym (ap (λ zs. done ++ map f zs) here)

  -- what one more gives is added, of those that pass a test
  module _ {B : Type 0} (f : A → B) (p : A → Bool) (done : List B) where
    by : (b : Bool) → p x ≡ b → map f (filter p (drop n xs)) ≡ map f (cond b (x ∷ filter p (drop (suc n) xs)) (filter p (drop (suc n) xs)))
    by b h = ap (λ zs. map f (filter p zs)) here ∙ ap (λ c. map f (cond c (x ∷ filter p (drop (suc n) xs)) (filter p (drop (suc n) xs)))) h

    pub kept_more : p x ≡ true → (done ++ f x ∷ []) ++ map f (filter p (drop (n + 1) xs)) ≡ done ++ map f (filter p (drop n xs))
    kept_more h = ap (λ k. (done ++ f x ∷ []) ++ map f (filter p (drop k xs))) one ∙ append_assoc done (f x ∷ []) (map f (filter p (drop (suc n) xs))) ∙ sym (ap (λ zs. done ++ zs) (by true h))

    pub kept_passed : p x ≡ false → done ++ map f (filter p (drop (n + 1) xs)) ≡ done ++ map f (filter p (drop n xs))
    kept_passed h = ap (λ k. done ++ map f (filter p (drop k xs))) one ∙ sym (ap (λ zs. done ++ zs) (by false h))

  -- the text of one more is added
  pub joined_more : (f : A → List ℕ) (old new : List ℕ) → new ≡ old ++ f x → new ++ flat_map f (drop (n + 1) xs) ≡ old ++ flat_map f (drop n xs)
  joined_more f old new h = ap (λ k. new ++ flat_map f (drop k xs)) one ∙ ap (λ u. u ++ flat_map f (drop (suc n) xs)) h ∙ append_assoc old (f x) (flat_map f (drop (suc n) xs)) ∙ sym (ap (λ zs. old ++ flat_map f zs) here)

module _ {A : Type 0} (xs : List A) (n : ℕ) (le : length xs ≤ n) where
  pub added_all : (done : List A) → done ++ drop n xs ≡ done
  added_all done = ap (λ zs. done ++ zs) (drop_all n xs le) ∙ append-nil done

  pub mapped_all : {B : Type 0} (f : A → B) (done : List B) → done ++ map f (drop n xs) ≡ done
  mapped_all f done = ap (λ zs. done ++ map f zs) (drop_all n xs le) ∙ append-nil done

  pub kept_all : {B : Type 0} (f : A → B) (p : A → Bool) (done : List B) → done ++ map f (filter p (drop n xs)) ≡ done
  kept_all f p done = ap (λ zs. done ++ map f (filter p zs)) (drop_all n xs le) ∙ append-nil done

  pub joined_all : (f : A → List ℕ) (done : List ℕ) → done ++ flat_map f (drop n xs) ≡ done
  joined_all f done = ap (λ zs. done ++ flat_map f zs) (drop_all n xs le) ∙ append-nil done
