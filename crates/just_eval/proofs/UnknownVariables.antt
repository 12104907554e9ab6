-- The variables that are overridden and not assigned, in a set of variables.
use Rattle.std.proofs.Common.{◌≡◌, ◌≢◌, ℕ, suc, ◌+◌, ◌<◌, ◌≤◌, Bool, true, false, ◌&&◌, ◌||◌, not, cond, Bor, List, [], ◌∷◌, length, get_or, drop, drop-cons, map, refl, sym, ap, ◌∙◌, subst, arith, bytes_eq, inl, inr}
use Rattle.std.specs.BTreeMap.{is_at}
use Rattle.std.specs.BTreeSet.{BTreeSet, contains, Updates, IsOrdered}
use Rattle.std.specs.List.{list_any}
use Rattle.std.specs.declared.cmp.Ordering.{Ordering}
use Rattle.std.specs.declared.cmp.Ordering.TheVariants.{Less, Equal, Greater}
use Rattle.std.specs.Ordering.{ordering_then, is_eq}
use Rattle.std.proofs.lemmas.List.{drop_all}
use Rattle.just_lang_types.specs.declared.recipe.Modulepath.{Modulepath}
use Rattle.just_lang_types.specs.declared.scope.Assignment.{Assignment}
use Rattle.just_lang_types.specs.declared.scope.Override.{Override}
use Rattle.just_lang_types.specs.declared.project.Justfile.{Justfile}
use Rattle.just_lang_types.specs.Keys.{same_path}
use Rattle.just_eval_closure.specs.Numbers.{text_cmp, path_cmp}
use Rattle.just_eval_closure.proofs.Equal.{and_both, both_and, bytes_is, bytes_self, same_path_is, same_path_self}
use Rattle.just_eval_closure.proofs.Items.{In, contains_in, in_contains}
use Rattle.just_eval_closure.proofs.Numbered.{path_tie, text_tie}
use Rattle.just_lang_types.specs.Modules.{path_of, assignments_of}
use Rattle.just_eval.specs.Overrides.{Variable, is_overridden, assigns, is_assigned, variable_cmp, AreUnknown, variable_text}

-- ---- one variable and another

-- whether they are one
abbrev pub same_variable : Variable → Variable → Bool
same_variable v w = same_path v.0 w.0 && bytes_eq v.1 w.1

then_ties : (a b : Ordering) → is_eq (ordering_then a b) ≡ (is_eq a && is_eq b)
then_ties Less b = refl
then_ties Equal b = refl
then_ties Greater b = refl

pub variable_tie : (v w : Variable) → is_at (variable_cmp v) w ≡ same_variable v w
variable_tie v w =
    then_ties (path_cmp v.0 w.0) (text_cmp v.1 w.1) ∙ ap (λ b. b && is_eq (text_cmp v.1 w.1)) (path_tie v.0 w.0) ∙ ap (λ b. same_path v.0 w.0 && b) (text_tie v.1 w.1)

same_variable_is : (v w : Variable) → same_variable v w ≡ true → v ≡ w
same_variable_is v w h =
    let both = and_both (same_path v.0 w.0) (bytes_eq v.1 w.1) h in
    ap (λ p. (p, v.1)) (same_path_is v.0 w.0 both.0) ∙ ap (λ n. (w.0, n)) (bytes_is v.1 w.1 both.1)

pub same_variable_self : (v : Variable) → same_variable v v ≡ true
same_variable_self v = both_and (same_path v.0 v.0) (bytes_eq v.1 v.1) (same_path_self v.0) (bytes_self v.1)

-- ---- what a set contains is in the list of its variables

no_test : (v : Variable) → list_any (is_at (variable_cmp v)) [] ≡ true → ⊥
no_test v h = let no : ⊥ = cc in no

any_in : (v : Variable) (ws : List Variable) → list_any (is_at (variable_cmp v)) ws ≡ true → In v ws
any_in v [] h = absurd (no_test v h)
any_in v (w ∷ ws) h = pick (is_at (variable_cmp v) w) refl h (λ e. any_in v ws e)
  where
    pick : (b : Bool) → is_at (variable_cmp v) w ≡ b → (b || list_any (is_at (variable_cmp v)) ws) ≡ true → (list_any (is_at (variable_cmp v)) ws ≡ true → In v ws) → In v (w ∷ ws)
    pick true is e rest = inl (sym (same_variable_is v w (sym (variable_tie v w) ∙ is)))
    pick false is e rest = inr (rest e)

any_first : (a b : Bool) → a ≡ true → (a || b) ≡ true
any_first true b h = refl
any_first false b h = absurd (let no : ⊥ = cc in no)

any_second : (a b : Bool) → b ≡ true → (a || b) ≡ true
any_second true b h = refl
any_second false b h = h

in_any : (v : Variable) (ws : List Variable) → In v ws → list_any (is_at (variable_cmp v)) ws ≡ true
in_any v [] i = absurd i
in_any v (w ∷ ws) (inl e) = any_first (is_at (variable_cmp v) w) (list_any (is_at (variable_cmp v)) ws) (subst (λ u. is_at (variable_cmp v) u ≡ true) (sym e) (variable_tie v v ∙ same_variable_self v))
in_any v (w ∷ ws) (inr i) = any_second (is_at (variable_cmp v) w) (list_any (is_at (variable_cmp v)) ws) (in_any v ws i)

not_false : (b : Bool) → not b ≡ true → b ≡ false
not_false true h = absurd (let no : ⊥ = cc in no)
not_false false h = refl

false_not : (b : Bool) → b ≡ false → not b ≡ true
false_not true h = absurd (let no : ⊥ = cc in no)
false_not false h = refl

module _ (modules : List Justfile) (overrides : List Override) (set : BTreeSet Variable) (has : (v : Variable) → contains variable_cmp set v ≡ (is_overridden overrides v && not (is_assigned modules v))) (ordered : IsOrdered variable_cmp set) where
  pub are_unknown : AreUnknown modules overrides set.keys
  are_unknown = record {
    which = λ v. (
      λ c. let both = and_both (is_overridden overrides v) (not (is_assigned modules v)) (sym (has v) ∙ in_any v set.keys (contains_in set.keys v c)) in (both.0, not_false (is_assigned modules v) both.1),
      λ h. in_contains set.keys v (any_in v set.keys (has v ∙ both_and (is_overridden overrides v) (not (is_assigned modules v)) h.0 (false_not (is_assigned modules v) h.1))),
    );
    ordered = ordered;
  }

  no_length : (vs : List Variable) → length vs ≡ 0 → vs ≡ []
  no_length [] h = refl
  no_length (v ∷ vs) h = absurd (omega (arith, h))

  some_length : (vs : List Variable) → vs ≡ [] → length vs ≡ 0
  some_length vs h = ap (λ ws. length ws) h

  pub none_unknown : length set.keys ≡ 0 → AreUnknown modules overrides []
  none_unknown size = subst (λ vs. AreUnknown modules overrides vs) (no_length set.keys size) are_unknown

  pub some_unknown : (texts : List (List ℕ)) → (length set.keys ≡ 0 → ⊥) → texts ≡ map variable_text set.keys → (vs : List Variable) × (vs ≢ []) × AreUnknown modules overrides vs × (texts ≡ map variable_text vs)
  some_unknown texts some is = (set.keys, (λ h. some (some_length set.keys h)), are_unknown, is)

-- ---- those that are overridden

abbrev pub AreOverriddenFrom : List Override → ℕ → BTreeSet Variable → Type 0
AreOverriddenFrom all n set = (v : Variable) → (contains variable_cmp set v || is_overridden (drop n all) v) ≡ is_overridden all v

or_false : (b : Bool) → (b || false) ≡ b
or_false true = refl
or_false false = refl

or_set : (t c r : Bool) → (cond t true c || r) ≡ (c || (t || r))
or_set true true r = refl
or_set true false r = refl
or_set false true r = refl
or_set false false r = refl

pub none_overridden : (all : List Override) (set : BTreeSet Variable) → set.keys ≡ [] → AreOverriddenFrom all 0 set
none_overridden all set none v = ap (λ ks. list_any (is_at (variable_cmp v)) ks || is_overridden all v) none

pub all_overridden : (all : List Override) (n : ℕ) (set : BTreeSet Variable) → length all ≤ n → AreOverriddenFrom all n set → (v : Variable) → contains variable_cmp set v ≡ is_overridden all v
all_overridden all n set le from v = sym (or_false (contains variable_cmp set v)) ∙ sym (ap (λ os. contains variable_cmp set v || is_overridden os v) (drop_all n all le)) ∙ from v

-- where the set has now one variable more
pub one_overridden : (all : List Override) (n : ℕ) (o : Override) (old new : BTreeSet Variable) (path : Modulepath) (name : List ℕ) → n < length all → o ≡ get_or all n o → path ≡ o.module → name ≡ o.name → Updates variable_cmp old new (path, name) true → AreOverriddenFrom all n old → AreOverriddenFrom all (n + 1) new
one_overridden all n o old new path name lt is path_is name_is updates before v =
    let one : n + 1 ≡ suc n = omega arith in
    let here : drop n all ≡ o ∷ drop (suc n) all = drop-cons all n o lt ∙ ap (λ z. z ∷ drop (suc n) all) (sym is) in
    let now : contains variable_cmp new v ≡ cond (same_path o.module v.0 && bytes_eq o.name v.1) true (contains variable_cmp old v) =
    updates.0 v ∙ ap (λ b. cond b true (contains variable_cmp old v)) (variable_tie (path, name) v ∙ ap (λ p. same_path p v.0 && bytes_eq name v.1) path_is ∙ ap (λ t. same_path o.module v.0 && bytes_eq t v.1) name_is) in
    ap (λ k. contains variable_cmp new v || is_overridden (drop k all) v) one ∙ ap (λ b. b || is_overridden (drop (suc n) all) v) now ∙ or_set (same_path o.module v.0 && bytes_eq o.name v.1) (contains variable_cmp old v) (is_overridden (drop (suc n) all) v)
    ∙ sym (ap (λ os. contains variable_cmp old v || is_overridden os v) here) ∙ before v

-- ---- less those of a module

abbrev pub AreTakenFrom : List Assignment → Modulepath → BTreeSet Variable → ℕ → BTreeSet Variable → Type 0
AreTakenFrom all path first n left =
    (v : Variable) → (contains variable_cmp left v && not (same_path path v.0 && assigns (drop n all) v.1)) ≡ (contains variable_cmp first v && not (same_path path v.0 && assigns all v.1))

pub none_taken : (all : List Assignment) (path : Modulepath) (first : BTreeSet Variable) → AreTakenFrom all path first 0 first
none_taken all path first v = refl

and_true : (c p : Bool) → (c && not (p && false)) ≡ c
and_true true true = refl
and_true true false = refl
and_true false p = refl

pub all_taken : (all : List Assignment) (path : Modulepath) (first left : BTreeSet Variable) (n : ℕ) → length all ≤ n → AreTakenFrom all path first n left → (v : Variable) → contains variable_cmp left v ≡ (contains variable_cmp first v && not (same_path path v.0 && assigns all v.1))
all_taken all path first left n le from v =
    sym (and_true (contains variable_cmp left v) (same_path path v.0)) ∙ sym (ap (λ xs. contains variable_cmp left v && not (same_path path v.0 && assigns xs v.1)) (drop_all n all le)) ∙ from v

out : (p b r c : Bool) → (cond (p && b) false c && not (p && r)) ≡ (c && not (p && (b || r)))
out true true r true = refl
out true true r false = refl
out true false r c = refl
out false b r c = refl

pub one_taken : (all : List Assignment) (path : Modulepath) (first : BTreeSet Variable) (n : ℕ) (a : Assignment) (old new : BTreeSet Variable) (key : Modulepath) (name : List ℕ) → n < length all → a ≡ get_or all n a → key ≡ path → name ≡ a.name → Updates variable_cmp old new (key, name) false → AreTakenFrom all path first n old → AreTakenFrom all path first (n + 1) new
one_taken all path first n a old new key name lt is key_is name_is updates before v =
    let one : n + 1 ≡ suc n = omega arith in
    let here : drop n all ≡ a ∷ drop (suc n) all = drop-cons all n a lt ∙ ap (λ z. z ∷ drop (suc n) all) (sym is) in
    let now : contains variable_cmp new v ≡ cond (same_path path v.0 && bytes_eq a.name v.1) false (contains variable_cmp old v) =
    updates.0 v ∙ ap (λ b. cond b false (contains variable_cmp old v)) (variable_tie (key, name) v ∙ ap (λ p. same_path p v.0 && bytes_eq name v.1) key_is ∙ ap (λ t. same_path path v.0 && bytes_eq t v.1) name_is) in
    ap (λ k. contains variable_cmp new v && not (same_path path v.0 && assigns (drop k all) v.1)) one ∙ ap (λ b. b && not (same_path path v.0 && assigns (drop (suc n) all) v.1)) now
    ∙ out (same_path path v.0) (bytes_eq a.name v.1) (assigns (drop (suc n) all) v.1) (contains variable_cmp old v) ∙ sym (ap (λ xs. contains variable_cmp old v && not (same_path path v.0 && assigns xs v.1)) here) ∙ before v

-- ---- less those of all modules

abbrev pub AreLeftFrom : List (Bor Justfile) → List Override → ℕ → BTreeSet Variable → Type 0
AreLeftFrom all overrides n left =
    (v : Variable) → (contains variable_cmp left v && not (is_assigned (map (λ m. m.now) (drop n all)) v)) ≡ (is_overridden overrides v && not (is_assigned (map (λ m. m.now) all) v))

pub no_module : (all : List (Bor Justfile)) (overrides : List Override) (left : BTreeSet Variable) → ((v : Variable) → contains variable_cmp left v ≡ is_overridden overrides v) → AreLeftFrom all overrides 0 left
no_module all overrides left are v = ap (λ b. b && not (is_assigned (map (λ m. m.now) all) v)) (are v)

and_not_false : (c : Bool) → (c && not false) ≡ c
and_not_false true = refl
and_not_false false = refl

pub all_modules_taken : (all : List (Bor Justfile)) (overrides : List Override) (n : ℕ) (left : BTreeSet Variable) → length all ≤ n → AreLeftFrom all overrides n left → (v : Variable) → contains variable_cmp left v ≡ (is_overridden overrides v && not (is_assigned (map (λ m. m.now) all) v))
all_modules_taken all overrides n left le from v =
    sym (and_not_false (contains variable_cmp left v)) ∙ sym (ap (λ ms. contains variable_cmp left v && not (is_assigned (map (λ m. m.now) ms) v)) (drop_all n all le)) ∙ from v

out_both : (c x r : Bool) → ((c && not x) && not r) ≡ (c && not (x || r))
out_both true true r = refl
out_both true false r = refl
out_both false x r = refl

pub one_module : (all : List (Bor Justfile)) (overrides : List Override) (n : ℕ) (m : Bor Justfile) (old new : BTreeSet Variable) → n < length all → m ≡ get_or all n m
    → ((v : Variable) → contains variable_cmp new v ≡ (contains variable_cmp old v && not (same_path (path_of m.now) v.0 && assigns (assignments_of m.now) v.1)))
    → AreLeftFrom all overrides n old → AreLeftFrom all overrides (n + 1) new
one_module all overrides n m old new lt is taken before v =
    let one : n + 1 ≡ suc n = omega arith in
    let here : drop n all ≡ m ∷ drop (suc n) all = drop-cons all n m lt ∙ ap (λ z. z ∷ drop (suc n) all) (sym is) in
    ap (λ k. contains variable_cmp new v && not (is_assigned (map (λ j. j.now) (drop k all)) v)) one ∙ ap (λ b. b && not (is_assigned (map (λ j. j.now) (drop (suc n) all)) v)) (taken v)
    ∙ out_both (contains variable_cmp old v) (same_path (path_of m.now) v.0 && assigns (assignments_of m.now) v.1) (is_assigned (map (λ j. j.now) (drop (suc n) all)) v) ∙ sym (ap (λ ms. contains variable_cmp old v && not (is_assigned (map (λ j. j.now) ms) v)) here) ∙ before v

-- where nothing is given nothing is unknown
and_none : (c a : Bool) → c ≡ false → c ≡ (c && a)
and_none true a h = absurd (let no : ⊥ = cc in no)
and_none false a h = refl

pub nothing_given : (modules : List Justfile) (overrides : List Override) (set : BTreeSet Variable) → overrides ≡ [] → ((v : Variable) → contains variable_cmp set v ≡ is_overridden overrides v) → (v : Variable) → contains variable_cmp set v ≡ (is_overridden overrides v && not (is_assigned modules v))
nothing_given modules overrides set none are v = are v ∙ and_none (is_overridden overrides v) (not (is_assigned modules v)) (ap (λ os. is_overridden os v) none)
