-- Parameters with their values, one after the other.
use Rattle.std.proofs.Common.{◌≡◌, ℕ, suc, ◌+◌, ◌<◌, ◌≤◌, List, [], ◌∷◌, ◌++◌, length, drop, get_or, drop-cons, append-nil, append_assoc, refl, sym, ap, ◌∙◌, arith}
use Rattle.std.proofs.lemmas.List.{drop_all}
use Rattle.just_lang_types.specs.declared.key.Value.{Value}
use Rattle.just_lang_types.specs.declared.recipe.Parameter.{Parameter}
use Rattle.just_exec_work.specs.Positional.{given_texts, positional_texts}

module _ (ps : List Parameter) (vs : List Value) (n : ℕ) where
  module _ (p : Parameter) (v : Value) (lp : n < length ps) (lv : n < length vs) (ip : p ≡ get_or ps n p) (iv : v ≡ get_or vs n v) where
    one : n + 1 ≡ suc n
    one = omega arith

    here : positional_texts (drop n ps) (drop n vs) ≡ given_texts p v ++ positional_texts (drop (suc n) ps) (drop (suc n) vs)
    here =
        ap (λ qs. positional_texts qs (drop n vs)) (drop-cons ps n p lp ∙ ap (λ z. z ∷ drop (suc n) ps) (sym ip))
        ∙ ap (positional_texts (p ∷ drop (suc n) ps)) (drop-cons vs n v lv ∙ ap (λ z. z ∷ drop (suc n) vs) (sym iv))

    next : positional_texts (drop (n + 1) ps) (drop (n + 1) vs) ≡ positional_texts (drop (suc n) ps) (drop (suc n) vs)
    next = ap (λ k. positional_texts (drop k ps) (drop k vs)) one

    -- one more is added, as far as it counts
    pub given_more : (old new : List (List ℕ)) → new ≡ old ++ given_texts p v → new ++ positional_texts (drop (n + 1) ps) (drop (n + 1) vs) ≡ old ++ positional_texts (drop n ps) (drop n vs)
    given_more old new e =
        ap (λ u. new ++ u) next ∙ ap (λ u. u ++ positional_texts (drop (suc n) ps) (drop (suc n) vs)) e ∙ append_assoc old (given_texts p v) (positional_texts (drop (suc n) ps) (drop (suc n) vs))
        ∙ sym (ap (λ u. old ++ u) here)

  -- no value is left
  pub no_value : (old : List (List ℕ)) → length vs ≤ n → old ++ positional_texts (drop n ps) (drop n vs) ≡ old
  no_value old le = ap (λ u. old ++ u) (ap (positional_texts (drop n ps)) (drop_all n vs le) ∙ nothing (drop n ps)) ∙ append-nil old
    where
      nothing : (qs : List Parameter) → positional_texts qs [] ≡ []
      nothing [] = refl
      nothing (q ∷ qs) = refl

  -- no parameter is left
  pub given_all : (old : List (List ℕ)) → length ps ≤ n → old ++ positional_texts (drop n ps) (drop n vs) ≡ old
  given_all old le = ap (λ u. old ++ u) (ap (λ qs. positional_texts qs (drop n vs)) (drop_all n ps le)) ∙ append-nil old
