-- Parameters with their values, one after the other.
use Rattle.std.proofs.Common.{◌≡◌, ℕ, suc, ◌+◌, ◌<◌, ◌≤◌, List, [], ◌∷◌, ◌++◌, append-nil, append_assoc, length, get_or, drop, drop-cons, refl, sym, ap, ◌∙◌, arith}
use Rattle.std.proofs.lemmas.List.{drop_all}
use Rattle.just_lang_types.specs.declared.key.Value.{Value}
use Rattle.just_lang_types.specs.declared.recipe.Parameter.{Parameter}
use Rattle.just_lang_types.specs.declared.scope.Binding.{Binding}
use Rattle.just_eval_closure.specs.Scopes.{parameter_bindings}

-- those from the place n on are to come
abbrev pub IsBoundFrom : List Parameter → List Value → ℕ → List Binding → Type 0
IsBoundFrom ps vs n bindings = bindings ++ parameter_bindings (drop n ps) (drop n vs) ≡ parameter_bindings ps vs

no_values : (ps : List Parameter) → parameter_bindings ps [] ≡ []
no_values [] = refl
no_values (p ∷ ps) = refl

-- in the end all are there
pub bound_end : (ps : List Parameter) (vs : List Value) (n : ℕ) (bindings : List Binding) → length ps ≤ n → IsBoundFrom ps vs n bindings → bindings ≡ parameter_bindings ps vs
bound_end ps vs n bindings le from = sym (append-nil bindings) ∙ ap (λ qs. bindings ++ parameter_bindings qs (drop n vs)) (sym (drop_all n ps le)) ∙ from

-- behind the last value nothing comes
pub values_end : (ps : List Parameter) (vs : List Value) (n : ℕ) (bindings : List Binding) → length vs ≤ n → IsBoundFrom ps vs n bindings → IsBoundFrom ps vs (n + 1) bindings
values_end ps vs n bindings le from =
    let more : length vs ≤ n + 1 = omega (arith, le) in
    ap (λ ws. bindings ++ parameter_bindings (drop (n + 1) ps) ws) (drop_all (n + 1) vs more) ∙ ap (λ bs. bindings ++ bs) (no_values (drop (n + 1) ps))
    ∙ sym (ap (λ bs. bindings ++ bs) (no_values (drop n ps))) ∙ sym (ap (λ ws. bindings ++ parameter_bindings (drop n ps) ws) (drop_all n vs le)) ∙ from

-- one parameter more
pub bound_more : (ps : List Parameter) (vs : List Value) (n : ℕ) (p : Parameter) (v : Value) (b : Binding) (bindings : List Binding) → n < length ps → n < length vs → p ≡ get_or ps n p → v ≡ get_or vs n v
    → b ≡ record { name = p.name; value = v; export = p.export } → IsBoundFrom ps vs n bindings → IsBoundFrom ps vs (n + 1) (bindings ++ b ∷ [])
bound_more ps vs n p v b bindings lp lv is_p is_v is_b from =
    let one : n + 1 ≡ suc n = omega arith in
    let here : drop n ps ≡ p ∷ drop (suc n) ps = drop-cons ps n p lp ∙ ap (λ z. z ∷ drop (suc n) ps) (sym is_p) in
    let there : drop n vs ≡ v ∷ drop (suc n) vs = drop-cons vs n v lv ∙ ap (λ z. z ∷ drop (suc n) vs) (sym is_v) in
    ap (λ k. (bindings ++ b ∷ []) ++ parameter_bindings (drop k ps) (drop k vs)) one
    ∙ append_assoc bindings (b ∷ []) (parameter_bindings (drop (suc n) ps) (drop (suc n) vs))
    ∙ ap (λ z. bindings ++ z ∷ parameter_bindings (drop (suc n) ps) (drop (suc n) vs)) is_b
    ∙ sym (ap (λ qs. bindings ++ parameter_bindings qs (v ∷ drop (suc n) vs)) here)
    ∙ sym (ap (λ ws. bindings ++ parameter_bindings (drop n ps) ws) there) ∙ from
