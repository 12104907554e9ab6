-- Items that are put in one by one under their names are the same items, where no two have one name.
use Rattle.std.proofs.Common.{◌≡◌, ℕ, true, false, List, [], ◌∷◌, ◌++◌, map, append-nil, refl, sym, ap, subst, ◌∙◌, bytes_eq}
use Rattle.std.specs.Ordering.{nat_cmp, is_eq}
use Rattle.std.specs.declared.cmp.Ordering.{Ordering}
use Rattle.std.specs.declared.cmp.Ordering.TheVariants.{Less, Equal, Greater}
use Rattle.std.specs.Cmp.Lexicographic.{slice_cmp}
use Rattle.std.specs.FinMap.Entries.{put, by_order}
use Rattle.std.specs.List.{AllByRecursion, IsDistinct}
use Rattle.std.specs.Prelude.{IsPermutation}
use Rattle.std.proofs.lemmas.Cmp.{nat_list_eq_equiv}
use Rattle.std.proofs.lemmas.Map.Keys.{IsDistinct-IsPermutation}
use Rattle.std.proofs.lemmas.Map.Text.{is_eq-slice_cmp}
use Rattle.std.proofs.lemmas.List.Sorted.{IsPermutation-refl, IsPermutation-cons, IsPermutation-map, IsPermutation-append_left, IsPermutation-trans, IsPermutation-middle}
use Rattle.just_path.specs.View.{named}
use Rattle.just_path.specs.declared.meta.Item.{Item}
use Rattle.just_path.specs.declared.meta.Kind.{Kind}
use Rattle.just_host_files.specs.Items.{put_in, NamesDiffer}

-- an item by its name
abbrev by_name : Item → List ℕ × Kind
by_name i = (i.name, i.kind)

-- the entries with that of an item
abbrev with_item : List (List ℕ × Kind) → Item → List (List ℕ × Kind)
with_item es x = put (slice_cmp nat_cmp) x.name x.kind es

-- the names of entries
abbrev keyed : List (List ℕ × Kind) → List (List ℕ)
keyed es = map (λ (e : List ℕ × Kind). e.0) es

-- an entry whose name no other has is put in beside them
put_beside : (k : List ℕ) (v : Kind) (es : List (List ℕ × Kind)) → AllByRecursion (λ y. bytes_eq k y ≡ false) (keyed es) → IsPermutation ((k, v) ∷ es) (put (slice_cmp nat_cmp) k v es)
put_beside k v [] h = IsPermutation-refl ((k, v) ∷ [])
put_beside k v (e ∷ es) h =
    elim (slice_cmp nat_cmp k e.0) as (λ o. slice_cmp nat_cmp k e.0 ≡ o → IsPermutation ((k, v) ∷ e ∷ es) (by_order o ((k, v) ∷ e ∷ es) ((e.0, v) ∷ es) (e ∷ put (slice_cmp nat_cmp) k v es))) [
      | Less ↦ λ p. IsPermutation-refl ((k, v) ∷ e ∷ es)
      | Equal ↦ λ p. (let no : true ≡ false = ap is_eq (sym p) ∙ is_eq-slice_cmp k e.0 ∙ h.0 in cc)
      | Greater ↦ λ p. IsPermutation-trans _ _ _ (IsPermutation-middle ((k, v) ∷ []) e es) (IsPermutation-cons e _ _ (put_beside k v es h.1))
    ] refl

-- what holds of all names holds of those in front
in_front : (P : List ℕ → Type 0) (es zs : List (List ℕ × Kind)) → AllByRecursion P (keyed (es ++ zs)) → AllByRecursion P (keyed es)
in_front P [] zs h = tt
in_front P (e ∷ es) zs h = (h.0, in_front P es zs h.1)

-- the first of distinct names differs from those behind it
first_apart : (k : List ℕ) (ks : List (List ℕ)) → IsDistinct bytes_eq (k ∷ ks) → AllByRecursion (λ y. bytes_eq k y ≡ false) ks
unfolding IsDistinct
first_apart k ks h = h.0

-- distinct names stay so in another order
turned_apart : (es fs : List (List ℕ × Kind)) → IsPermutation es fs → IsDistinct bytes_eq (keyed es) → IsDistinct bytes_eq (keyed fs)
turned_apart es fs p h = IsDistinct-IsPermutation bytes_eq nat_list_eq_equiv.symm (keyed es) (keyed fs) (IsPermutation-map (λ (e : List ℕ × Kind). e.0) es fs p) h

all_put : (es : List (List ℕ × Kind)) (xs : List Item) → IsDistinct bytes_eq (keyed (es ++ named xs)) → IsPermutation (es ++ named xs) (put_in es xs)
all_put es [] h = subst (λ l. IsPermutation l es) (sym (append-nil es)) (IsPermutation-refl es)
all_put es (x ∷ xs) h =
    let front : IsPermutation (es ++ by_name x ∷ named xs) (by_name x ∷ (es ++ named xs)) = IsPermutation-middle es (by_name x) (named xs) in
    let apart : IsDistinct bytes_eq (x.name ∷ keyed (es ++ named xs)) = turned_apart (es ++ by_name x ∷ named xs) (by_name x ∷ (es ++ named xs)) front h in
    let fresh = in_front (λ y. bytes_eq x.name y ≡ false) es (named xs) (first_apart x.name (keyed (es ++ named xs)) apart) in
    let whole : IsPermutation (by_name x ∷ (es ++ named xs)) (with_item es x ++ named xs) = IsPermutation-append_left (named xs) (by_name x ∷ es) (with_item es x) (put_beside x.name x.kind es fresh) in
    IsPermutation-trans (es ++ by_name x ∷ named xs) (by_name x ∷ (es ++ named xs)) _ front
    (IsPermutation-trans (by_name x ∷ (es ++ named xs)) (with_item es x ++ named xs) _ whole (all_put (with_item es x) xs (turned_apart (by_name x ∷ (es ++ named xs)) (with_item es x ++ named xs) whole apart)))

-- the names of items are those of their entries
keyed_named : (xs : List Item) → keyed (named xs) ≡ map (λ (i : Item). i.name) xs
keyed_named [] = refl
keyed_named (x ∷ xs) = ap (λ l. x.name ∷ l) (keyed_named xs)

-- items that were turned and put in under their names are those that there were
pub found_all : (found turned : List Item) (es : List (List ℕ × Kind)) → IsPermutation found turned → es ≡ put_in [] turned → NamesDiffer found → IsPermutation (named found) es
found_all found turned es p is differ =
    let apart = IsDistinct-IsPermutation bytes_eq nat_list_eq_equiv.symm _ _ (IsPermutation-map (λ (i : Item). i.name) found turned p) differ in
    IsPermutation-trans (named found) (named turned) es (IsPermutation-map by_name found turned p)
    (subst (λ l. IsPermutation (named turned) l) (sym is) (all_put [] turned (subst (IsDistinct bytes_eq) (sym (keyed_named turned)) apart)))
