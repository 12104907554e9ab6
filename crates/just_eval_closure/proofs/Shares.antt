-- What parameters take of arguments, parameter by parameter.
use Rattle.std.proofs.Common.{◌≡◌, ℕ, suc, ◌+◌, ◌<◌, ◌≤◌, Bool, true, false, List, [], ◌∷◌, ◌++◌, length, get_or, drop, drop-cons, append-nil, append_assoc, Option, Some, None, sym, ap, ◌∙◌, arith}
use Rattle.std.specs.Prelude.{if◌then◌else◌}
use Rattle.std.specs.List.{flat_map}
use Rattle.std.proofs.lemmas.List.{drop_all}
use Rattle.just_lang_types.specs.declared.key.Value.{Value}
use Rattle.just_lang_types.specs.declared.recipe.Parameter.{Parameter}
use Rattle.just_eval_closure.specs.Scopes.{text_of_value}
use Rattle.just_eval_closure.specs.Dependencies.{is_variadic, shares}

abbrev Given : Type 0
Given = List (Option (List (List ℕ)))

parameters_at : (ps : List Parameter) (n : ℕ) (p : Parameter) → n < length ps → p ≡ get_or ps n p → drop n ps ≡ p ∷ drop (suc n) ps
parameters_at ps n p lt is = drop-cons ps n p lt ∙ ap (λ z. z ∷ drop (suc n) ps) (sym is)

arguments_at : (vs : List Value) (n : ℕ) (v : Value) → n < length vs → v ≡ get_or vs n v → drop n vs ≡ v ∷ drop (suc n) vs
arguments_at vs n v lt is = drop-cons vs n v lt ∙ ap (λ z. z ∷ drop (suc n) vs) (sym is)

-- what a parameter takes in front of what the others do
abbrev taken : Bool → List Parameter → Value → List Value → Given
taken b ps v vs = if b then Some (flat_map (λ a. a.elements) (v ∷ vs)) ∷ shares ps [] else Some (text_of_value v ∷ []) ∷ shares ps vs

module _ (ps : List Parameter) (vs : List Value) (n : ℕ) (p : Parameter) (given : Given) (lt : n < length ps) (is : p ≡ get_or ps n p) where
  one : n + 1 ≡ suc n
  one = omega arith

  -- no argument is left
  pub no_argument : (m : ℕ) → length vs ≤ m → (given ++ None ∷ []) ++ shares (drop (n + 1) ps) (drop m vs) ≡ given ++ shares (drop n ps) (drop m vs)
  no_argument m le =
      let none : drop m vs ≡ [] = drop_all m vs le in
      append_assoc given (None ∷ []) (shares (drop (n + 1) ps) (drop m vs)) ∙ ap (λ k. given ++ None ∷ shares (drop k ps) (drop m vs)) one ∙ ap (λ ws. given ++ None ∷ shares (drop (suc n) ps) ws) none ∙ sym (ap (λ qs. given ++ shares qs (drop m vs)) (parameters_at ps n p lt is) ∙ ap (λ ws. given ++ shares (p ∷ drop (suc n) ps) ws) none)

  -- all that are left
  pub all_arguments : (m : ℕ) → m < length vs → is_variadic p.kind ≡ true → (given ++ Some (flat_map (λ a. a.elements) (drop m vs)) ∷ []) ++ shares (drop (n + 1) ps) (drop (length vs) vs) ≡ given ++ shares (drop n ps) (drop m vs)
  all_arguments m lt' variadic =
      let none : drop (length vs) vs ≡ [] = drop_all (length vs) vs (omega arith) in
      let here : (v : Value) → drop m vs ≡ v ∷ drop (suc m) vs → given ++ Some (flat_map (λ a. a.elements) (drop m vs)) ∷ shares (drop (suc n) ps) [] ≡ given ++ shares (p ∷ drop (suc n) ps) (drop m vs) =
      λ v are. ap (λ ws. given ++ Some (flat_map (λ a. a.elements) ws) ∷ shares (drop (suc n) ps) []) are ∙ sym (ap (λ ws. given ++ shares (p ∷ drop (suc n) ps) ws) are ∙ ap (λ b. given ++ taken b (drop (suc n) ps) v (drop (suc m) vs)) variadic) in
      append_assoc given (Some (flat_map (λ a. a.elements) (drop m vs)) ∷ []) (shares (drop (n + 1) ps) (drop (length vs) vs)) ∙ ap (λ k. given ++ Some (flat_map (λ a. a.elements) (drop m vs)) ∷ shares (drop k ps) (drop (length vs) vs)) one ∙ ap (λ ws. given ++ Some (flat_map (λ a. a.elements) (drop m vs)) ∷ shares (drop (suc n) ps) ws) none ∙ here (get_or vs m (record { elements = [] })) (drop-cons vs m (record { elements = [] }) lt') ∙ sym (ap (λ qs. given ++ shares qs (drop m vs)) (parameters_at ps n p lt is))

  -- the next one
  pub one_argument : (m : ℕ) (v : Value) → m < length vs → v ≡ get_or vs m v → is_variadic p.kind ≡ false → (given ++ Some (text_of_value v ∷ []) ∷ []) ++ shares (drop (n + 1) ps) (drop (m + 1) vs) ≡ given ++ shares (drop n ps) (drop m vs)
  one_argument m v lt' is' single =
      let next : m + 1 ≡ suc m = omega arith in
      append_assoc given (Some (text_of_value v ∷ []) ∷ []) (shares (drop (n + 1) ps) (drop (m + 1) vs)) ∙ ap (λ k. given ++ Some (text_of_value v ∷ []) ∷ shares (drop k ps) (drop (m + 1) vs)) one ∙ ap (λ k. given ++ Some (text_of_value v ∷ []) ∷ shares (drop (suc n) ps) (drop k vs)) next ∙ sym (ap (λ qs. given ++ shares qs (drop m vs)) (parameters_at ps n p lt is) ∙ ap (λ ws. given ++ shares (p ∷ drop (suc n) ps) ws) (arguments_at vs m v lt' is') ∙ ap (λ b. given ++ taken b (drop (suc n) ps) v (drop (suc m) vs)) single)

-- no parameter is left
pub no_parameter : (ps : List Parameter) (vs : List Value) (n : ℕ) (given : Given) → length ps ≤ n → given ++ shares (drop n ps) vs ≡ given
no_parameter ps vs n given le = ap (λ qs. given ++ shares qs vs) (drop_all n ps le) ∙ append-nil given
