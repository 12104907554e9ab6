-- Variables in order are determined by which they are.
use Rattle.std.proofs.Common.{◌≡◌, true, false, inl, inr, List, [], ◌∷◌, refl, sym, ap, ◌∙◌, subst}
use Rattle.std.specs.Cmp.{IsTotalOrder}
use Rattle.std.specs.Cmp.Lexicographic.{lists_total, nat_list_cmp_total}
use Rattle.std.specs.List.{AllByRecursion}
use Rattle.std.specs.List.Sorted.{IsStrictlySortedBy}
use Rattle.std.specs.declared.cmp.Ordering.TheVariants.{Less, Greater}
use Rattle.std.specs.Ordering.{ordering_reverse, is_eq}
use Rattle.std.proofs.lemmas.Cmp.{on_total, then_total}
use Rattle.std.proofs.lemmas.Map.Keys.{sorted_head, sorted_tail}
use Rattle.just_lang_types.specs.declared.recipe.Modulepath.{Modulepath}
use Rattle.just_eval_closure.specs.Numbers.{path_cmp}
use Rattle.just_eval_closure.proofs.Items.{In}
use Rattle.just_eval.specs.Overrides.{Variable, variable_cmp}
use Rattle.just_eval.proofs.UnknownVariables.{variable_tie, same_variable_self}

path_total : IsTotalOrder path_cmp
path_total = on_total (λ (p : Modulepath). p.components) (lists_total nat_list_cmp_total)

variable_total : IsTotalOrder variable_cmp
variable_total = then_total (on_total (λ (v : Variable). v.0) path_total) (on_total (λ (v : Variable). v.1) nat_list_cmp_total)

apart : false ≡ true → ⊥
apart e = let no : ⊥ = cc in no

turned : Less ≡ Greater → ⊥
turned e = let no : ⊥ = cc in no

-- no variable is before itself, nor two before each other
not_itself : (v : Variable) → variable_cmp v v ≡ Less → ⊥
not_itself v h = apart (sym (ap (λ o. is_eq o) h) ∙ variable_tie v v ∙ same_variable_self v)

not_both : (v w : Variable) → variable_cmp v w ≡ Less → variable_cmp w v ≡ Less → ⊥
not_both v w h g = turned (sym h ∙ variable_total.antisymm v w ∙ ap (λ o. ordering_reverse o) g)

above : (v : Variable) (ws : List Variable) → AllByRecursion (λ y. variable_cmp v y ≡ Less) ws → (w : Variable) → In w ws → variable_cmp v w ≡ Less
above v [] all w i = absurd i
above v (u ∷ us) all w (inl e) = subst (λ z. variable_cmp v z ≡ Less) e all.0
above v (u ∷ us) all w (inr i) = above v us all.1 w i

first_same : (v w : Variable) (vs ws : List Variable) → AllByRecursion (λ y. variable_cmp v y ≡ Less) vs → AllByRecursion (λ y. variable_cmp w y ≡ Less) ws → In v (w ∷ ws) → In w (v ∷ vs) → v ≡ w
first_same v w vs ws hv hw (inl e) j = sym e
first_same v w vs ws hv hw (inr i) (inl e) = e
first_same v w vs ws hv hw (inr i) (inr j) = absurd (not_both v w (above v vs hv w j) (above w ws hw v i))

others_in : (v w : Variable) (vs ws : List Variable) → v ≡ w → AllByRecursion (λ y. variable_cmp v y ≡ Less) vs → (u : Variable) → In u vs → In u (w ∷ ws) → In u ws
others_in v w vs ws same hv u i (inl e) = absurd (not_itself u (subst (λ z. variable_cmp z u ≡ Less) (same ∙ e) (above v vs hv u i)))
others_in v w vs ws same hv u i (inr j) = j

pub one_order : (vs ws : List Variable) → IsStrictlySortedBy variable_cmp vs → IsStrictlySortedBy variable_cmp ws → ((u : Variable) → In u vs → In u ws) → ((u : Variable) → In u ws → In u vs) → vs ≡ ws
one_order [] [] s t f g = refl
one_order [] (w ∷ ws) s t f g = absurd (g w (inl refl))
one_order (v ∷ vs) [] s t f g = absurd (f v (inl refl))
one_order (v ∷ vs) (w ∷ ws) s t f g =
    let hv = sorted_head variable_cmp v vs s in
    let hw = sorted_head variable_cmp w ws t in
    let same : v ≡ w = first_same v w vs ws hv hw (f v (inl refl)) (g w (inl refl)) in
    ap (λ u. u ∷ vs) same ∙ ap (λ us. w ∷ us) (one_order vs ws (sorted_tail variable_cmp v vs s) (sorted_tail variable_cmp w ws t) (λ u i. others_in v w vs ws same hv u i (f u (inr i))) (λ u i. others_in w v ws vs (sym same) hw u i (g u (inr i))))
