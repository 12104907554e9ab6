-- The laws of the order of paths: it is total, paths of the same components and no others are equal, and equal ones hash alike.
use Rattle.std.specs.Prelude.{◌≡◌, ◌↔◌, ℕ, Bool, true, List, [], ◌∷◌, IsTrue}
use Rattle.std.proofs.Common.{refl, sym, ap, ◌∙◌}
use Rattle.std.specs.List.{flat_map}
use Rattle.std.specs.declared.cmp.Ordering.{Ordering}
use Rattle.std.specs.declared.cmp.Ordering.TheVariants.{Less, Equal, Greater}
use Rattle.std.specs.Ordering.{nat_cmp, is_eq, ordering_then}
use Rattle.std.specs.Cmp.{IsTotalOrder}
use Rattle.std.specs.Cmp.Lexicographic.{slice_cmp}
use Rattle.std.proofs.lemmas.Cmp.{on_total, then_total, lists_total, nat_cmp_total, nat_list_cmp_total, tied_itself}
use Rattle.std.proofs.lemmas.Map.Text.{is_eq-slice_cmp}
use Rattle.std.proofs.lemmas.Slice.Eq.{bytes_eq-Decides}
use Rattle.just_path.specs.Comps.{Comp, prefix, root, current, parent, normal, comp_text, comps}
use Rattle.just_path.specs.Order.{rank, comp_cmp, path_cmp, comp_hash, path_hash}

-- the order of components is total
comp_cmp_total : IsTotalOrder comp_cmp
comp_cmp_total = then_total (on_total rank nat_cmp_total) (on_total comp_text nat_list_cmp_total)

-- so is the order of what has components
pub left_cmp_total : {P : Type 0} (list : P → List Comp) → IsTotalOrder (λ x y. slice_cmp comp_cmp (list x) (list y))
left_cmp_total list = on_total list (lists_total comp_cmp_total)

-- so is that of paths
pub path_cmp_total : {P : Type 0} (text : P → List ℕ) → IsTotalOrder (λ x y. path_cmp (text x) (text y))
path_cmp_total text = on_total (λ p. comps (text p)) (lists_total comp_cmp_total)

-- components that tie are the same
then_first : (o p : Ordering) → ordering_then o p ≡ Equal → (o ≡ Equal) × (p ≡ Equal)
then_first Less p h = cc
then_first Equal p h = (refl, h)
then_first Greater p h = cc

-- texts that tie are the same
texts_tied : (t u : List ℕ) → slice_cmp nat_cmp t u ≡ Equal → t ≡ u
texts_tied t u h = (bytes_eq-Decides t u).0 (sym (is_eq-slice_cmp t u) ∙ ap is_eq h)

-- components that tie are the same
comps_tied : (c d : Comp) → comp_cmp c d ≡ Equal → c ≡ d
comps_tied (prefix t) (prefix u) h = ap prefix (texts_tied t u h)
comps_tied root root h = refl
comps_tied current current h = refl
comps_tied parent parent h = refl
comps_tied (normal t) (normal u) h = ap normal (texts_tied t u h)
comps_tied c d h = cc

-- lists of components that tie are the same
lists_tied : (cs ds : List Comp) → slice_cmp comp_cmp cs ds ≡ Equal → cs ≡ ds
lists_tied [] [] h = refl
lists_tied [] (d ∷ ds) h = cc
lists_tied (c ∷ cs) [] h = cc
lists_tied (c ∷ cs) (d ∷ ds) h =
    let (a, b) = then_first (comp_cmp c d) (slice_cmp comp_cmp cs ds) h in
    ap (λ x. x ∷ cs) (comps_tied c d a) ∙ ap (λ xs. d ∷ xs) (lists_tied cs ds b)

-- an order that counts as equal is `Equal`
is_equal : (o : Ordering) → is_eq o ≡ true → o ≡ Equal
is_equal Less h = cc
is_equal Equal h = refl
is_equal Greater h = cc

-- equal paths have the same components
pub equal_is_same : (t u : List ℕ) → is_eq (path_cmp t u) ≡ true → comps t ≡ comps u
equal_is_same t u h = lists_tied (comps t) (comps u) (is_equal (path_cmp t u) h)

-- and those of the same components compare equal
pub same_compares_equal : (t u : List ℕ) → comps t ≡ comps u → path_cmp t u ≡ Equal
same_compares_equal t u h = ap (λ cs. slice_cmp comp_cmp cs (comps u)) h ∙ tied_itself (lists_total comp_cmp_total) (comps u)

-- so `==` of paths decides whether they have the same components
pub same_is_equal : (t u : List ℕ) (r : Bool) → r ≡ is_eq (path_cmp t u) → IsTrue r ↔ (comps t ≡ comps u)
same_is_equal t u r e = (λ h. equal_is_same t u (sym e ∙ h), λ h. e ∙ ap is_eq (same_compares_equal t u h))

-- equal paths hash alike
pub path_hash_respects : (t u : List ℕ) → is_eq (path_cmp t u) ≡ true → path_hash t ≡ path_hash u
path_hash_respects t u h = ap (flat_map comp_hash) (equal_is_same t u h)
