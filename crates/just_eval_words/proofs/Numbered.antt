-- The first parameter that passes, parameter by parameter.
use Rattle.std.proofs.Common.{◌≡◌, ℕ, suc, ◌+◌, ◌<◌, ◌≤◌, Bool, true, false, List, [], ◌∷◌, length, get_or, drop, drop-cons, Option, Some, None, refl, sym, ap, ◌∙◌, arith}
use Rattle.std.specs.Prelude.{if◌then◌else◌}
use Rattle.std.proofs.lemmas.List.{drop_all}
use Rattle.just_lang_types.specs.declared.recipe.Parameter.{Parameter}
use Rattle.std.specs.List.{list_any, filter}
use Rattle.just_eval_words.specs.Parameters.{numbered_from, takes_all, is_positional, most_words}

module _ (test : Parameter → Bool) (ps : List Parameter) (n : ℕ) where
  here : (p : Parameter) → n < length ps → p ≡ get_or ps n p → numbered_from test n (drop n ps) ≡ (if test p then Some (n, p) else numbered_from test (suc n) (drop (suc n) ps))
  here p lt is = ap (λ qs. numbered_from test n qs) (drop-cons ps n p lt ∙ ap (λ z. z ∷ drop (suc n) ps) (sym is))

  -- it passes
  pub passed : (p : Parameter) → n < length ps → p ≡ get_or ps n p → test p ≡ true → numbered_from test n (drop n ps) ≡ Some (n, p)
  passed p lt is h = here p lt is ∙ ap (λ b. if b then Some (n, p) else numbered_from test (suc n) (drop (suc n) ps)) h

  -- it doesn't
  pub lacking : (p : Parameter) → n < length ps → p ≡ get_or ps n p → test p ≡ false → numbered_from test (n + 1) (drop (n + 1) ps) ≡ numbered_from test n (drop n ps)
  lacking p lt is h =
      let one : n + 1 ≡ suc n = omega arith in
      ap (λ m. numbered_from test m (drop m ps)) one ∙ sym (here p lt is ∙ ap (λ b. if b then Some (n, p) else numbered_from test (suc n) (drop (suc n) ps)) h)

  -- no parameter is left
  pub at_end : length ps ≤ n → numbered_from test n (drop n ps) ≡ None
  at_end le = ap (λ qs. numbered_from test n qs) (drop_all n ps le)

-- ---- the greatest number of positional words

pub unbounded : (ps : List Parameter) → list_any takes_all ps ≡ true → most_words ps ≡ None
unbounded ps h = ap (λ b. if b then None else Some (length (filter is_positional ps))) h

pub bounded : (ps : List Parameter) (n : ℕ) → list_any takes_all ps ≡ false → n ≡ length (filter is_positional ps) → most_words ps ≡ Some n
bounded ps n h k = ap (λ b. if b then None else Some (length (filter is_positional ps))) h ∙ ap (λ m. Some m) (sym k)
