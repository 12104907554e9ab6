-- The place of a name in a list by rising names, and what putting an item there gives.
use Rattle.std.proofs.Common.{◌≡◌, ◌+◌, ◌<◌, ◌≤◌, ℕ, zero, suc, Bool, true, false, T, ◌&&◌, List, [], ◌∷◌, ◌++◌, length, get_or, set, insert, take, drop, refl, sym, ap, ap₂, subst, subst₂, ◌∙◌, arith, bytes_eq}
use Rattle.std.specs.Ordering.{nat_cmp, is_gt, is_lt, is_eq, ordering_reverse}
use Rattle.std.specs.declared.cmp.Ordering.{Ordering}
use Rattle.std.specs.declared.cmp.Ordering.TheVariants.{Less, Equal, Greater}
use Rattle.std.specs.Cmp.Lexicographic.{slice_cmp}
use Rattle.std.specs.FinMap.Entries.{put, by_order, below_all, is_sorted, is_sorted-put}
use Rattle.std.proofs.lemmas.Cmp.{nat_list_cmp_total, tied_itself}
use Rattle.std.proofs.Math.Decide.{dec_lt}
use Rattle.std.proofs.lemmas.Map.Text.{is_eq-slice_cmp}
use Rattle.std.proofs.lemmas.Slice.Eq.{bytes_eq-Decides}
use Rattle.std.proofs.lemmas.List.{get_or-map, map-set, map-append, length-map}
use Rattle.std.specs.List.{take-map, drop-map}
use Rattle.just_path.specs.View.{named, AreInOrder}
use Rattle.just_path.specs.declared.meta.Item.{Item}
use Rattle.just_host_files.specs.Items.{IsPlaceOf}
use Rattle.just_path.specs.declared.meta.Kind.{Kind}

-- an order that tests greater is greater
greater : (o : Ordering) → is_gt o ≡ true → o ≡ Greater
greater Less h = cc
greater Equal h = cc
greater Greater h = refl

-- an order that tests lesser is lesser
lesser : (o : Ordering) → T (is_lt o) → o ≡ Less
lesser Less h = refl
lesser Equal h = absurd h
lesser Greater h = absurd h

-- neither greater nor equal
pub left_over : (o : Ordering) → is_gt o ≡ false → is_eq o ≡ false → o ≡ Less
left_over Less g e = refl
left_over Equal g e = cc
left_over Greater g e = cc

-- two tests that hold hold together
both : (a b : Bool) → T (a && b) → T a × T b
both true b h = (tt, h)
both false b h = absurd h

-- a name is less than each behind it
below_at : (x : List ℕ) (es : List (List ℕ × Kind)) (i : ℕ) (d : List ℕ × Kind) → T (below_all (slice_cmp nat_cmp) x es) → i < length es → slice_cmp nat_cmp x (get_or es i d).0 ≡ Less
below_at x [] i d h lt = absurd (omega arith)
below_at x (e ∷ es) zero d h lt = lesser _ (both _ _ h).0
below_at x (e ∷ es) (suc i) d h lt = below_at x es i d (both _ _ h).1 (omega arith)

-- of two names in order the earlier is lesser
sorted_at : (es : List (List ℕ × Kind)) (i j : ℕ) (d : List ℕ × Kind) → T (is_sorted (slice_cmp nat_cmp) es) → i < j → j < length es → slice_cmp nat_cmp (get_or es i d).0 (get_or es j d).0 ≡ Less
sorted_at [] i j d h lt inside = absurd (omega arith)
sorted_at (e ∷ es) i zero d h lt inside = absurd (omega arith)
sorted_at (e ∷ es) zero (suc j) d h lt inside = below_at e.0 es j d (both _ _ h).0 (omega arith)
sorted_at (e ∷ es) (suc i) (suc j) d h lt inside = sorted_at es i j d (both _ _ h).1 (omega arith) (omega arith)

-- a name that is greater than one is greater than each before that
pub greater_before : (name : List ℕ) (es : List (List ℕ × Kind)) (at : ℕ) (d : List ℕ × Kind) → T (is_sorted (slice_cmp nat_cmp) es) → at < length es → is_gt (slice_cmp nat_cmp name (get_or es at d).0) ≡ true → (i : ℕ) → i < at + 1 → is_gt (slice_cmp nat_cmp name (get_or es i d).0) ≡ true
greater_before name es at d sorted inside is i lt =
    let above : slice_cmp nat_cmp (get_or es at d).0 name ≡ Less = nat_list_cmp_total.antisymm (get_or es at d).0 name ∙ ap ordering_reverse (greater _ is) in
    elim (dec_lt i at) as (λ _. is_gt (slice_cmp nat_cmp name (get_or es i d).0) ≡ true) [
      | yes further ↦ ap is_gt (nat_list_cmp_total.antisymm name (get_or es i d).0 ∙ ap ordering_reverse (nat_list_cmp_total.trans (get_or es i d).0 (get_or es at d).0 name (sorted_at es i at d sorted further inside) above))
      | no not_further ↦ (let same : i ≡ at = omega arith in subst (λ k. is_gt (slice_cmp nat_cmp name (get_or es k d).0) ≡ true) (sym same) is)
    ]

-- an item that is put where no name is equal goes between
pub put_new : (k : List ℕ) (v : Kind) (es : List (List ℕ × Kind)) (at : ℕ) (d : List ℕ × Kind) → at ≤ length es → ((i : ℕ) → i < at → is_gt (slice_cmp nat_cmp k (get_or es i d).0) ≡ true) → (at < length es → slice_cmp nat_cmp k (get_or es at d).0 ≡ Less) → put (slice_cmp nat_cmp) k v es ≡ insert es at (k, v)
put_new k v [] zero d low before less = refl
put_new k v [] (suc n) d low before less = absurd (omega arith)
put_new k v (e ∷ es) zero d low before less = ap (λ o. by_order o ((k, v) ∷ e ∷ es) ((e.0, v) ∷ es) (e ∷ put (slice_cmp nat_cmp) k v es)) (less (omega arith))
put_new k v (e ∷ es) (suc n) d low before less =
    ap (λ o. by_order o ((k, v) ∷ e ∷ es) ((e.0, v) ∷ es) (e ∷ put (slice_cmp nat_cmp) k v es)) (greater _ (before 0 (omega arith)))
    ∙ ap (λ xs. e ∷ xs) (put_new k v es n d (omega arith) (λ i lt. before (suc i) (omega arith)) (λ lt. less (omega arith)))

-- one that is put where the name is there gives it the value
pub put_tied : (k : List ℕ) (v : Kind) (es : List (List ℕ × Kind)) (at : ℕ) (d : List ℕ × Kind) → at < length es → ((i : ℕ) → i < at → is_gt (slice_cmp nat_cmp k (get_or es i d).0) ≡ true) → (get_or es at d).0 ≡ k → put (slice_cmp nat_cmp) k v es ≡ set es at (k, v)
put_tied k v [] at d inside before same = absurd (omega arith)
put_tied k v (e ∷ es) zero d inside before same =
    ap (λ o. by_order o ((k, v) ∷ e ∷ es) ((e.0, v) ∷ es) (e ∷ put (slice_cmp nat_cmp) k v es)) (ap (λ x. slice_cmp nat_cmp k x) same ∙ tied_itself nat_list_cmp_total k)
    ∙ ap (λ x. (x, v) ∷ es) same
put_tied k v (e ∷ es) (suc n) d inside before same =
    ap (λ o. by_order o ((k, v) ∷ e ∷ es) ((e.0, v) ∷ es) (e ∷ put (slice_cmp nat_cmp) k v es)) (greater _ (before 0 (omega arith)))
    ∙ ap (λ xs. e ∷ xs) (put_tied k v es n d (omega arith) (λ i lt. before (suc i) (omega arith)) same)

-- an item by its name
abbrev by_name : Item → List ℕ × Kind
by_name i = (i.name, i.kind)

-- to insert an item is to insert its name
named_insert : (items : List Item) (at : ℕ) (item : Item) → named (insert items at item) ≡ insert (named items) at (item.name, item.kind)
named_insert items at item =
    map-append by_name (take at items) (item ∷ drop at items)
    ∙ ap₂ (λ a b. a ++ (item.name, item.kind) ∷ b) (sym (take-map by_name at items)) (sym (drop-map by_name at items))

-- the name at a place is that of the item there
key_at : (items : List Item) (at : ℕ) (x : Item) (d : List ℕ × Kind) → at < length items → x ≡ get_or items at x → (get_or (named items) at d).0 ≡ x.name
key_at items at x d inside is = ap (λ e. e.0) (get_or-map by_name items at x d inside) ∙ ap (λ i. i.name) (sym is)

-- a place of an item is one of its name
within : (items : List Item) (at : ℕ) → at < length items → at < length (named items)
within items at h = subst (λ n. at < n) (sym (length-map items by_name)) h

-- a place of a name is one of its item
within_back : (items : List Item) (at : ℕ) → at < length (named items) → at < length items
within_back items at h = subst (λ n. at < n) (length-map items by_name) h

-- an item that goes between is put under its name
pub put_between : (items : List Item) (item : Item) (at : ℕ) → IsPlaceOf item.name at (named items) → (at < length items → (x : Item) × (x ≡ get_or items at x) × (bytes_eq item.name x.name ≡ false)) → named (insert items at item) ≡ put (slice_cmp nat_cmp) item.name item.kind (named items)
put_between items item at p other =
    named_insert items at item
    ∙ sym (put_new item.name item.kind (named items) at (by_name item) p.inside (λ i lt. p.before i (by_name item) lt) (λ lt.
    let x = other (within_back items at lt) in
    left_over _ (p.behind (by_name item) lt)
    (is_eq-slice_cmp item.name (get_or (named items) at (by_name item)).0 ∙ ap (λ k. bytes_eq item.name k) (key_at items at x.0 (by_name item) (within_back items at lt) x.1) ∙ x.2)))

-- an item that replaces another is put under its name
pub put_over : (items : List Item) (item : Item) (at : ℕ) (x : Item) → IsPlaceOf item.name at (named items) → at < length items → x ≡ get_or items at x → bytes_eq item.name x.name ≡ true → named (set items at item) ≡ put (slice_cmp nat_cmp) item.name item.kind (named items)
put_over items item at x p inside is same =
    map-set by_name items at item
    ∙ sym (put_tied item.name item.kind (named items) at (by_name item) (within items at inside) (λ i lt. p.before i (by_name item) lt)
    (key_at items at x (by_name item) inside is ∙ sym ((bytes_eq-Decides item.name x.name).0 same)))

-- a place stays one for equal names and items
pub placed : (name name' : List ℕ) (items items' : List Item) (at : ℕ) → name' ≡ name → items' ≡ items → IsPlaceOf name' at (named items') → IsPlaceOf name at (named items)
placed name name' items items' at n i p = subst₂ (λ x xs. IsPlaceOf x at (named xs)) n i p

-- behind the first item from the end with a lesser name is the place
pub place_found : (items : List Item) (name : List ℕ) (at : ℕ) (x : Item) → AreInOrder items → at < length items → x ≡ get_or items at x → is_gt (slice_cmp nat_cmp name x.name) ≡ true → ((k : ℕ) (d : List ℕ × Kind) → at + 1 ≤ k → k < length items → is_gt (slice_cmp nat_cmp name (get_or (named items) k d).0) ≡ false) → IsPlaceOf name (at + 1) (named items)
place_found items name at x sorted inside is above rest = record {
  inside = subst (λ n. at + 1 ≤ n) (sym (length-map items by_name)) (omega (arith, inside));
  before = λ i d lt. greater_before name (named items) at d sorted (within items at inside) (ap (λ k. is_gt (slice_cmp nat_cmp name k)) (key_at items at x d inside is) ∙ above) i lt;
  behind = λ d lt. rest (at + 1) d (omega arith) (within_back items (at + 1) lt);
}

-- an item with no lesser name is passed
pub place_passed : (items : List Item) (name : List ℕ) (at : ℕ) (x : Item) → at < length items → x ≡ get_or items at x → is_gt (slice_cmp nat_cmp name x.name) ≡ false → ((k : ℕ) (d : List ℕ × Kind) → at + 1 ≤ k → k < length items → is_gt (slice_cmp nat_cmp name (get_or (named items) k d).0) ≡ false) → (k : ℕ) (d : List ℕ × Kind) → at ≤ k → k < length items → is_gt (slice_cmp nat_cmp name (get_or (named items) k d).0) ≡ false
place_passed items name at x inside is under rest k d low high =
    elim (dec_lt at k) as (λ _. is_gt (slice_cmp nat_cmp name (get_or (named items) k d).0) ≡ false) [
      | yes further ↦ rest k d (omega (arith, further)) high
      | no not_further ↦ (let same : at ≡ k = omega arith in subst (λ j. is_gt (slice_cmp nat_cmp name (get_or (named items) j d).0) ≡ false) same (ap (λ n. is_gt (slice_cmp nat_cmp name n)) (key_at items at x d inside is) ∙ under))
    ]

-- an item that is put keeps the order
pub order_put : (items items' : List Item) (name : List ℕ) (kind : Kind) → AreInOrder items → named items' ≡ put (slice_cmp nat_cmp) name kind (named items) → AreInOrder items'
order_put items items' name kind h is = subst (λ es. T (is_sorted (slice_cmp nat_cmp) es)) (sym is) (is_sorted-put (slice_cmp nat_cmp) nat_list_cmp_total name kind (named items) h)
