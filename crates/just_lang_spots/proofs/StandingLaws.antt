-- The tables of names, one more item at a time.
use Rattle.std.proofs.Common.{◌≡◌, ℕ, zero, suc, ◌+◌, ◌<◌, ◌≤◌, Bool, true, false, ◌&&◌, ◌||◌, cond, List, [], ◌∷◌, ◌++◌, length, take, get_or, Option, Some, refl, sym, ap, ◌∙◌, arith}
use Rattle.std.specs.Prelude.{nat_eq, bytes_eq}
use Rattle.std.specs.List.{list_any}
use Rattle.std.specs.Ordering.{is_eq, nat_cmp, ordering_then}
use Rattle.std.specs.declared.cmp.Ordering.{Ordering}
use Rattle.std.specs.declared.cmp.Ordering.TheVariants.{Less, Equal, Greater}
use Rattle.std.specs.Cmp.Lexicographic.{slice_cmp}
use Rattle.std.proofs.lemmas.Bool.Decides.{nat_tests}
use Rattle.std.proofs.lemmas.Map.Text.{is_eq-slice_cmp}
use Rattle.just_lang_spots.specs.declared.entries.Entry.{Entry}
use Rattle.just_lang_spots.specs.Entries.{entry, entries, last_place}
use Rattle.just_lang_spots.specs.Standing.{has_name}
use Rattle.just_lang_spots.specs.Items.{item_name}
use Rattle.just_lang_spots.proofs.LastPlaces.{last_place_more}
use Rattle.just_lang_spots.proofs.ListLaws.{entries_take}

count_taken : (xs : List Entry) (i : ℕ) → i ≤ length xs → length (entries (take i xs)) ≡ i
count_taken [] zero h = refl
count_taken (x ∷ xs) zero h = refl
count_taken [] (suc i) h = absurd (omega (arith, h))
count_taken (x ∷ xs) (suc i) h = ap suc (count_taken xs i (omega (arith, h)))

-- after one more item the table has its place for its name, and for other names what it had
pub index_step : (items : List Entry) (i : ℕ) (x : Entry) (q : List ℕ) (before after : Option ℕ) → i < length items → x ≡ get_or items i x
    → before ≡ last_place item_name q (entries (take i items)) → after ≡ cond (bytes_eq (item_name x.item.now) q) (Some i) before
    → after ≡ last_place item_name q (entries (take (i + 1) items))
index_step items i x q before after lt e h k =
    let count : length (entries (take i items)) ≡ i = count_taken items i (omega (arith, lt)) in
    k ∙ ap (cond (bytes_eq (item_name x.item.now) q) (Some i)) h
    ∙ ap (λ n. cond (bytes_eq (item_name x.item.now) q) (Some n) (last_place item_name q (entries (take i items)))) (sym count)
    ∙ sym (ap (last_place item_name q) (entries_take items i x lt e) ∙ last_place_more item_name q (entries (take i items)) (entry x))

any_more : {X : Type 0} (f : X → Bool) (xs : List X) (x : X) → list_any f (xs ++ x ∷ []) ≡ cond (f x) true (list_any f xs)
any_more f [] x = last_one (f x)
  where
    last_one : (b : Bool) → b || false ≡ cond b true false
    last_one true = refl
    last_one false = refl
any_more f (y ∷ ys) x = ap (λ b. f y || b) (any_more f ys x) ∙ before (f y) (f x) (list_any f ys)
  where
    before : (a b c : Bool) → a || cond b true c ≡ cond b true (a || c)
    before true true c = refl
    before true false c = refl
    before false b c = refl

eq_then : (o p : Ordering) → is_eq (ordering_then o p) ≡ is_eq o && is_eq p
eq_then Less p = refl
eq_then Equal p = refl
eq_then Greater p = refl

eq_numbers : (m n : ℕ) → is_eq (nat_cmp m n) ≡ nat_eq m n
eq_numbers m n = grind (arith, nat_tests)

-- two pairs are equal where their files and their names are
pub same_pair : (m n : ℕ) (p q : List ℕ) → is_eq (ordering_then (nat_cmp m n) (slice_cmp nat_cmp p q)) ≡ nat_eq m n && bytes_eq p q
same_pair m n p q = eq_then (nat_cmp m n) (slice_cmp nat_cmp p q) ∙ ap (λ b. b && is_eq (slice_cmp nat_cmp p q)) (eq_numbers m n) ∙ ap (λ b. nat_eq m n && b) (is_eq-slice_cmp p q)

-- after one more item the set has its pair too
pub pairs_step : (items : List Entry) (i : ℕ) (x : Entry) (file : ℕ) (q : List ℕ) (before after : Bool) → i < length items → x ≡ get_or items i x
    → before ≡ list_any (λ y. nat_eq y.0 file && has_name item_name q y) (entries (take i items))
    → after ≡ cond (is_eq (ordering_then (nat_cmp x.file file) (slice_cmp nat_cmp (item_name x.item.now) q))) true before
    → after ≡ list_any (λ y. nat_eq y.0 file && has_name item_name q y) (entries (take (i + 1) items))
pairs_step items i x file q before after lt e h k =
    k ∙ ap (λ b. cond b true before) (same_pair x.file file (item_name x.item.now) q)
    ∙ ap (cond (nat_eq x.file file && bytes_eq (item_name x.item.now) q) true) h
    ∙ sym (ap (list_any (λ y. nat_eq y.0 file && has_name item_name q y)) (entries_take items i x lt e)
    ∙ any_more (λ y. nat_eq y.0 file && has_name item_name q y) (entries (take i items)) (entry x))
