-- What each parameter was given, parameter by parameter.
use Rattle.std.proofs.Common.{◌≡◌, ℕ, suc, ◌+◌, ◌<◌, ◌≤◌, Bool, true, false, List, [], ◌∷◌, ◌++◌, append-nil, append_assoc, length, get_or, take, drop, drop-cons, refl, sym, ap, ◌∙◌, arith}
use Rattle.std.specs.Prelude.{if◌then◌else◌}
use Rattle.std.proofs.lemmas.List.{drop_all}
use Rattle.just_lang_types.specs.declared.recipe.Parameter.{Parameter}
use Rattle.just_print.specs.Usages.{is_option, is_variadic}
use Rattle.just_eval_words.specs.Sorts.{Word}
use Rattle.just_eval_words.specs.Tests.{values_for, given_from}

one_more : (n : ℕ) → suc n ≡ n + 1
one_more n = omega arith

-- ---- one parameter

module _ (n : ℕ) (p : Parameter) (os : List (ℕ × Word)) (ps : List Parameter) (x ws : List Word) where
  -- in front of what the others are given of the words that are left
  abbrev by : Bool → Bool → List (List Word)
  by option all = if option then values_for n os ∷ given_from (suc n) ps ws os else (if all then ws ∷ given_from (suc n) ps [] os else take 1 ws ∷ given_from (suc n) ps (drop 1 ws) os)

  numbered : (vs : List Word) → x ∷ given_from (suc n) ps vs os ≡ x ∷ given_from (n + 1) ps vs os
  numbered vs = ap (λ k. x ∷ given_from k ps vs os) (one_more n)

  -- an option its values
  pub option_given : is_option p ≡ true → x ≡ values_for n os → given_from n (p ∷ ps) ws os ≡ x ∷ given_from (n + 1) ps ws os
  option_given h is = ap (λ b. by b (is_variadic p.kind)) h ∙ ap (λ y. y ∷ given_from (suc n) ps ws os) (sym is) ∙ numbered ws

  positional : (all : Bool) → is_option p ≡ false → is_variadic p.kind ≡ all → given_from n (p ∷ ps) ws os ≡ by false all
  positional all h k = ap (λ b. by b (is_variadic p.kind)) h ∙ ap (by false) k

  -- a variadic one all that are left
  pub all_given : (vs : List Word) → is_option p ≡ false → is_variadic p.kind ≡ true → x ≡ ws → vs ≡ [] → given_from n (p ∷ ps) ws os ≡ x ∷ given_from (n + 1) ps vs os
  all_given vs h k is none = positional true h k ∙ ap (λ y. y ∷ given_from (suc n) ps [] os) (sym is) ∙ ap (λ us. x ∷ given_from (suc n) ps us os) (sym none) ∙ numbered vs

  -- another one a word
  pub one_given : (w : Word) (vs : List Word) → is_option p ≡ false → is_variadic p.kind ≡ false → ws ≡ w ∷ vs → x ≡ w ∷ [] → given_from n (p ∷ ps) ws os ≡ x ∷ given_from (n + 1) ps vs os
  one_given w vs h k split is = positional false h k ∙ ap (λ us. take 1 us ∷ given_from (suc n) ps (drop 1 us) os) split ∙ ap (λ y. y ∷ given_from (suc n) ps vs os) (sym is) ∙ numbered vs

  -- or none where no word is left
  pub none_given : is_option p ≡ false → is_variadic p.kind ≡ false → ws ≡ [] → x ≡ [] → given_from n (p ∷ ps) ws os ≡ x ∷ given_from (n + 1) ps ws os
  none_given h k none is = positional false h k ∙ ap (λ us. take 1 us ∷ given_from (suc n) ps (drop 1 us) os) none ∙ ap (λ us. [] ∷ given_from (suc n) ps us os) (sym none) ∙ ap (λ y. y ∷ given_from (suc n) ps ws os) (sym is) ∙ numbered ws

-- ---- all parameters

-- what a parameter was given is behind what those before it were given
pub given_more : (ps : List Parameter) (os : List (ℕ × Word)) (n : ℕ) (p : Parameter) (given : List (List Word)) (x ws vs : List Word) → n < length ps → p ≡ get_or ps n p → ((qs : List Parameter) → given_from n (p ∷ qs) ws os ≡ x ∷ given_from (n + 1) qs vs os)
    → (given ++ x ∷ []) ++ given_from (n + 1) (drop (n + 1) ps) vs os ≡ given ++ given_from n (drop n ps) ws os
given_more ps os n p given x ws vs lt is h =
    let here : given_from n (drop n ps) ws os ≡ x ∷ given_from (n + 1) (drop (n + 1) ps) vs os =
    ap (λ qs. given_from n qs ws os) (drop-cons ps n p lt ∙ ap (λ z. z ∷ drop (suc n) ps) (sym is)) ∙ h (drop (suc n) ps) ∙ ap (λ k. x ∷ given_from (n + 1) (drop k ps) vs os) (one_more n) in
    append_assoc given (x ∷ []) (given_from (n + 1) (drop (n + 1) ps) vs os) ∙ ap (λ l. given ++ l) (sym here)

-- no parameter is left
pub no_parameter : (ps : List Parameter) (os : List (ℕ × Word)) (n : ℕ) (given : List (List Word)) (ws : List Word) → length ps ≤ n → given ++ given_from n (drop n ps) ws os ≡ given
no_parameter ps os n given ws le = ap (λ qs. given ++ given_from n qs ws os) (drop_all n ps le) ∙ append-nil given
