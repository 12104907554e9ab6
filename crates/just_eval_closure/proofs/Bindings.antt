-- What names mean, binding by binding and level by level.
use Rattle.std.proofs.Common.{◌≡◌, ℕ, suc, ◌+◌, ◌<◌, ◌≤◌, Bool, true, false, cond, find, List, [], ◌∷◌, ◌++◌, length, get_or, take, drop, drop-cons, length-drop, ◌-◌, bytes_eq, append-nil, Option, Some, None, refl, sym, ap, ◌∙◌, subst, arith}
use Rattle.std.proofs.lemmas.List.{drop_all, take_all}
use Rattle.std.specs.List.{join_with_byte}
use Rattle.std.specs.Option.{option_map}
use Rattle.just_path_text.specs.Environ.{or_else}
use Rattle.just_lang_types.specs.declared.key.Value.{Value}
use Rattle.just_lang_types.specs.declared.recipe.Parameter.{Parameter}
use Rattle.just_lang_types.specs.declared.scope.Binding.{Binding}
use Rattle.just_lang_types.specs.declared.scope.Level.{Level}
use Rattle.just_eval_closure.specs.Scopes.{parameter_bindings, levels_within, value_in, value_among, further}

-- ---- first answers

or_else_moved : {A : Type 0} (a b c : Option A) → or_else (or_else a b) c ≡ or_else a (or_else b c)
or_else_moved None b c = refl
or_else_moved (Some x) b c = refl

or_else_none : {A : Type 0} (a : Option A) → or_else a None ≡ a
or_else_none None = refl
or_else_none (Some x) = refl

-- ---- bindings

binding_found : (b : Binding) (bs : List Binding) (name : List ℕ) → bytes_eq b.name name ≡ true → value_in (b ∷ bs) name ≡ Some b.value
binding_found b bs name h = elim (bytes_eq b.name name) as (λ t. t ≡ true → option_map (λ x. x.value) (cond t (Some b) (find (λ x. bytes_eq x.name name) bs)) ≡ Some b.value) [ true ↦ λ e. refl | false ↦ λ e. absurd (let no : ⊥ = cc in no) ] h

binding_passed : (b : Binding) (bs : List Binding) (name : List ℕ) → bytes_eq b.name name ≡ false → value_in (b ∷ bs) name ≡ value_in bs name
binding_passed b bs name h = elim (bytes_eq b.name name) as (λ t. t ≡ false → option_map (λ x. x.value) (cond t (Some b) (find (λ x. bytes_eq x.name name) bs)) ≡ option_map (λ x. x.value) (find (λ x. bytes_eq x.name name) bs)) [ true ↦ λ e. absurd (let no : ⊥ = cc in no) | false ↦ λ e. refl ] h

-- ---- parameters

-- what is left at a place
left_at : (ps : List Parameter) (vs : List Value) (n : ℕ) (p : Parameter) (v : Value) → n < length ps → n < length vs → p ≡ get_or ps n p → v ≡ get_or vs n v → parameter_bindings (drop n ps) (drop n vs) ≡ record { name = p.name; value = v; export = p.export } ∷ parameter_bindings (drop (suc n) ps) (drop (suc n) vs)
left_at ps vs n p v lt lt' is is' =
    let parameters : drop n ps ≡ p ∷ drop (suc n) ps = drop-cons ps n p lt ∙ ap (λ q. q ∷ drop (suc n) ps) (sym is) in
    let values : drop n vs ≡ v ∷ drop (suc n) vs = drop-cons vs n v lt' ∙ ap (λ w. w ∷ drop (suc n) vs) (sym is') in
    ap (λ qs. parameter_bindings qs (drop n vs)) parameters ∙ ap (λ ws. parameter_bindings (p ∷ drop (suc n) ps) ws) values

pub parameter_found : (ps : List Parameter) (vs : List Value) (n : ℕ) (p : Parameter) (v : Value) (name : List ℕ) → n < length ps → n < length vs → p ≡ get_or ps n p → v ≡ get_or vs n v → bytes_eq p.name name ≡ true → value_in (parameter_bindings (drop n ps) (drop n vs)) name ≡ Some v
parameter_found ps vs n p v name lt lt' is is' same =
    ap (λ bs. value_in bs name) (left_at ps vs n p v lt lt' is is') ∙ binding_found (record { name = p.name; value = v; export = p.export }) (parameter_bindings (drop (suc n) ps) (drop (suc n) vs)) name same

pub parameter_passed : (ps : List Parameter) (vs : List Value) (n : ℕ) (p : Parameter) (v : Value) (name : List ℕ) → n < length ps → n < length vs → p ≡ get_or ps n p → v ≡ get_or vs n v → bytes_eq p.name name ≡ false → value_in (parameter_bindings (drop (n + 1) ps) (drop (n + 1) vs)) name ≡ value_in (parameter_bindings (drop n ps) (drop n vs)) name
parameter_passed ps vs n p v name lt lt' is is' other =
    let one : n + 1 ≡ suc n = omega arith in
    ap (λ m. value_in (parameter_bindings (drop m ps) (drop m vs)) name) one ∙ sym (ap (λ bs. value_in bs name) (left_at ps vs n p v lt lt' is is') ∙ binding_passed (record { name = p.name; value = v; export = p.export }) (parameter_bindings (drop (suc n) ps) (drop (suc n) vs)) name other)

pub parameters_end : (ps : List Parameter) (vs : List Value) (n : ℕ) (name : List ℕ) → length ps ≤ n → value_in (parameter_bindings (drop n ps) (drop n vs)) name ≡ None
parameters_end ps vs n name le = ap (λ qs. value_in (parameter_bindings qs (drop n vs)) name) (drop_all n ps le)

no_values : (ps : List Parameter) (name : List ℕ) → value_in (parameter_bindings ps []) name ≡ None
no_values [] name = refl
no_values (p ∷ ps) name = refl

pub values_end : (ps : List Parameter) (vs : List Value) (n : ℕ) (name : List ℕ) → length vs ≤ n → value_in (parameter_bindings (drop n ps) (drop n vs)) name ≡ None
values_end ps vs n name le = ap (λ ws. value_in (parameter_bindings (drop n ps) ws) name) (drop_all n vs le) ∙ no_values (drop n ps) name

-- ---- levels

level_at : (ls : List Level) (n : ℕ) (l : Level) (name : List ℕ) → n < length ls → l ≡ get_or ls n l → value_among (drop n ls) name ≡ or_else (value_among (drop (suc n) ls) name) (value_in l.bindings name)
level_at ls n l name lt is = ap (λ ks. value_among ks name) (drop-cons ls n l lt ∙ ap (λ k. k ∷ drop (suc n) ls) (sym is))

-- a level that has the name hides what was found
pub level_found : (ls : List Level) (n : ℕ) (l : Level) (name : List ℕ) (v : Value) (before : Option Value) → n < length ls → l ≡ get_or ls n l → Some v ≡ value_in l.bindings name → or_else (value_among (drop (n + 1) ls) name) (Some v) ≡ or_else (value_among (drop n ls) name) before
level_found ls n l name v before lt is found =
    let one : n + 1 ≡ suc n = omega arith in
    ap (λ m. or_else (value_among (drop m ls) name) (Some v)) one ∙ ap (λ o. or_else (value_among (drop (suc n) ls) name) (or_else o before)) found ∙ sym (or_else_moved (value_among (drop (suc n) ls) name) (value_in l.bindings name) before) ∙ sym (ap (λ o. or_else o before) (level_at ls n l name lt is))

-- one that lacks it doesn't
pub level_passed : (ls : List Level) (n : ℕ) (l : Level) (name : List ℕ) (before : Option Value) → n < length ls → l ≡ get_or ls n l → None ≡ value_in l.bindings name → or_else (value_among (drop (n + 1) ls) name) before ≡ or_else (value_among (drop n ls) name) before
level_passed ls n l name before lt is none =
    let one : n + 1 ≡ suc n = omega arith in
    ap (λ m. or_else (value_among (drop m ls) name) before) one ∙ ap (λ o. or_else (value_among (drop (suc n) ls) name) (or_else o before)) none ∙ sym (or_else_moved (value_among (drop (suc n) ls) name) (value_in l.bindings name) before) ∙ sym (ap (λ o. or_else o before) (level_at ls n l name lt is))

-- the parameters' level hides those of the module
within : (ls : List Level) (ps : List Parameter) (vs : List Value) (name : List ℕ) → value_among (levels_within ls ps vs) name ≡ or_else (value_in (parameter_bindings ps vs) name) (value_among ls name)
within [] ps vs name = sym (or_else_none (value_in (parameter_bindings ps vs) name))
within (l ∷ ls) ps vs name = ap (λ o. or_else o (value_in l.bindings name)) (within ls ps vs name) ∙ or_else_moved (value_in (parameter_bindings ps vs) name) (value_among ls name) (value_in l.bindings name)

pub inner_value : (ls : List Level) (ps : List Parameter) (vs : List Value) (name : List ℕ) (v : Value) → Some v ≡ value_in (parameter_bindings ps vs) name → Some v ≡ value_among (levels_within ls ps vs) name
inner_value ls ps vs name v found = ap (λ o. or_else o (value_among ls name)) found ∙ sym (within ls ps vs name)

pub outer_value : (ls : List Level) (ps : List Parameter) (vs : List Value) (name : List ℕ) (o : Option Value) → None ≡ value_in (parameter_bindings ps vs) name → o ≡ value_among ls name → o ≡ value_among (levels_within ls ps vs) name
outer_value ls ps vs name o none is = is ∙ ap (λ a. or_else a (value_among ls name)) none ∙ sym (within ls ps vs name)

-- ---- texts

-- elements with a blank between them: the first, and each other one behind a blank
pub joined_elements : (x : List ℕ) (xs : List (List ℕ)) → x ++ further xs ≡ join_with_byte 32 (x ∷ xs)
joined_elements x [] = append-nil x
joined_elements x (y ∷ ys) = ap (λ zs. x ++ (32 ∷ zs)) (joined_elements y ys)

-- the same of the first element and those behind it
pub joined_at : (es : List (List ℕ)) (x : List ℕ) → 1 ≤ length es → x ≡ get_or es 0 x → x ++ further (drop 1 es) ≡ join_with_byte 32 es
joined_at [] x le is = absurd (omega (arith, le))
joined_at (y ∷ ys) x le is = ap (λ z. z ++ further ys) is ∙ joined_elements y ys

-- a parameter of another name
pub parameter_other : (ps : List Parameter) (vs : List Value) (n : ℕ) (p : Parameter) (name : List ℕ) → n < length ps → n < length vs → p ≡ get_or ps n p → bytes_eq p.name name ≡ false → value_in (parameter_bindings (drop (n + 1) ps) (drop (n + 1) vs)) name ≡ value_in (parameter_bindings (drop n ps) (drop n vs)) name
parameter_other ps vs n p name lt lt' is other =
    let one : n + 1 ≡ suc n = omega arith in
    let none : Value = record { elements = [] } in
    let parameters : drop n ps ≡ p ∷ drop (suc n) ps = drop-cons ps n p lt ∙ ap (λ q. q ∷ drop (suc n) ps) (sym is) in
    ap (λ m. value_in (parameter_bindings (drop m ps) (drop m vs)) name) one ∙ sym (ap (λ qs. value_in (parameter_bindings qs (drop n vs)) name) parameters ∙ ap (λ ws. value_in (parameter_bindings (p ∷ drop (suc n) ps) ws) name) (drop-cons vs n none lt') ∙ binding_passed (record { name = p.name; value = get_or vs n none; export = p.export }) (parameter_bindings (drop (suc n) ps) (drop (suc n) vs)) name other)

-- all elements behind the first
pub others_are : (es : List (List ℕ)) → take (length es - 1) (drop 1 es) ≡ drop 1 es
others_are es = take_all (length es - 1) (drop 1 es) (omega (arith, length-drop 1 es))
