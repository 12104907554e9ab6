-- The values of an option, one after the other.
use Rattle.std.proofs.Common.{◌≡◌, ◌≢◌, ℕ, suc, ◌+◌, ◌<◌, ◌≤◌, ◌==◌, Bool, true, false, cond, List, [], ◌∷◌, ◌++◌, append-nil, append_assoc, map, length, get_or, drop, drop-cons, eq-eqb, ne_eqb, refl, sym, ap, ◌∙◌, arith}
use Rattle.std.specs.Prelude.{filter}
use Rattle.std.proofs.lemmas.List.{drop_all}
use Rattle.just_eval_words.specs.Sorts.{Word}
use Rattle.just_eval_words.specs.Tests.{values_for}

apart : (c x : ℕ) → x ≢ c → (x == c) ≡ false
apart c x h = ne_eqb x c h

same : (c x : ℕ) → x ≡ c → (x == c) ≡ true
same c x h = eq-eqb x c h

module _ (m : ℕ) (os : List (ℕ × Word)) (n : ℕ) (o : ℕ × Word) (vs : List Word) (lt : n < length os) (is : o ≡ get_or os n o) where
  one : n + 1 ≡ suc n
  one = omega arith

  here : values_for m (drop n os) ≡ map (λ x. x.1) (cond (o.0 == m) (o ∷ filter (λ x. x.0 == m) (drop (suc n) os)) (filter (λ x. x.0 == m) (drop (suc n) os)))
  here = ap (λ xs. values_for m xs) (drop-cons os n o lt ∙ ap (λ z. z ∷ drop (suc n) os) (sym is))

  -- one of its values
  pub value_more : o.0 ≡ m → (vs ++ o.1 ∷ []) ++ values_for m (drop (n + 1) os) ≡ vs ++ values_for m (drop n os)
  value_more h =
      append_assoc vs (o.1 ∷ []) (values_for m (drop (n + 1) os)) ∙ ap (λ k. vs ++ o.1 ∷ values_for m (drop k os)) one ∙ ap (λ l. vs ++ l) (sym (here ∙ ap (λ b. map (λ (x : ℕ × Word). x.1) (cond b (o ∷ filter (λ x. x.0 == m) (drop (suc n) os)) (filter (λ x. x.0 == m) (drop (suc n) os)))) (same m o.0 h)))

  -- one of another option's
  pub value_less : o.0 ≢ m → vs ++ values_for m (drop (n + 1) os) ≡ vs ++ values_for m (drop n os)
  value_less h =
      ap (λ k. vs ++ values_for m (drop k os)) one ∙ ap (λ l. vs ++ l) (sym (here ∙ ap (λ b. map (λ (x : ℕ × Word). x.1) (cond b (o ∷ filter (λ x. x.0 == m) (drop (suc n) os)) (filter (λ x. x.0 == m) (drop (suc n) os)))) (apart m o.0 h)))

-- none is left
pub values_end : (m : ℕ) (os : List (ℕ × Word)) (n : ℕ) (vs : List Word) → length os ≤ n → vs ++ values_for m (drop n os) ≡ vs
values_end m os n vs le = ap (λ xs. vs ++ values_for m xs) (drop_all n os le) ∙ append-nil vs
