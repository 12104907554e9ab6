-- Rows of marks and of importers, one more at a time.
use Rattle.std.proofs.Common.{◌≡◌, ◌↔◌, ℕ, zero, suc, ◌+◌, ◌<◌, ◌≤◌, inl, inr, Bool, true, false, ◌&&◌, ◌||◌, List, [], ◌∷◌, ◌++◌, length, get_or, cond, refl, ap, sym, ◌∙◌, subst, arith}
use Rattle.std.specs.Prelude.{nat_eq, nat_lt}
use Rattle.std.specs.List.{list_any}
use Rattle.std.proofs.lemmas.Bool.{cases_eq}
use Rattle.std.proofs.lemmas.Bool.Decides.{nat_tests}
use Rattle.std.proofs.lemmas.List.{get_or_append_left, get_or_push, get_or_past, length-append, append-nil}
use Rattle.just_lang_spots.specs.Graph.{Reaches}
use Rattle.just_lang_spots.specs.Met.{is_marked}
use Rattle.just_lang_spots.specs.Importers.{is_reached, AreReached, AreImportersOf, AreImportersOfEach}

-- the rows so far are those of the files so far
pub record AreReachedUpTo (edges : List (List ℕ)) (count : ℕ) (table : List (List Bool)) : Type 0 where
  pub size : length table ≡ count
  pub each : (f g : ℕ) → f < count → (is_reached table f g ≡ true) ↔ Reaches edges f g

pub none_reached : (edges : List (List ℕ)) → AreReachedUpTo edges 0 []
none_reached edges = record { size = refl; each = λ f g h. absurd (omega (arith, h)) }

one_more : (table : List (List Bool)) (row : List Bool) → length (table ++ row ∷ []) ≡ length table + 1
one_more table row = length-append table (row ∷ [])

pub reached_step : (edges : List (List ℕ)) (count : ℕ) (table : List (List Bool)) (row : List Bool) → AreReachedUpTo edges count table
    → ((g : ℕ) → (is_marked row g ≡ true) ↔ Reaches edges count g) → AreReachedUpTo edges (count + 1) (table ++ row ∷ [])
reached_step edges count table row s h = record {
  size = one_more table row ∙ ap (λ n. n + 1) s.size;
  each = λ f g less. elim (cases_eq f count) [
    | inl e ↦
        let here : get_or (table ++ row ∷ []) f [] ≡ row = get_or_push table row [] f (s.size ∙ sym e) in
        subst (λ n. (is_reached (table ++ row ∷ []) f g ≡ true) ↔ Reaches edges n g) (sym e)
        (subst (λ r. (is_marked r g ≡ true) ↔ Reaches edges count g) (sym here) (h g))
    | inr ne ↦
        let below : f < count = omega (arith, less, ne) in
        let size = s.size in
        let within : f < length table = omega (arith, below, size) in
        subst (λ r. (is_marked r g ≡ true) ↔ Reaches edges f g) (sym (get_or_append_left table (row ∷ []) [] f within)) (s.each f g below)
  ];
}

-- ---- importers

-- the importers so far are those among the files so far
abbrev pub AreImportersUpTo : List (List Bool) → ℕ → ℕ → List ℕ → Type 0
AreImportersUpTo table g count importers = (f : ℕ) → list_any (nat_eq f) importers ≡ nat_lt f count && is_reached table f g

pub none_imports : (table : List (List Bool)) (g : ℕ) → AreImportersUpTo table g 0 []
none_imports table g = λ f. at_zero f (is_reached table f g)
  where
    at_zero : (f : ℕ) (b : Bool) → false ≡ nat_lt f 0 && b
    at_zero f true = grind (arith, nat_tests)
    at_zero f false = grind (arith, nat_tests)

any_end : (f i : ℕ) (xs : List ℕ) → list_any (nat_eq f) (xs ++ i ∷ []) ≡ list_any (nat_eq f) xs || nat_eq f i
any_end f i [] = or_false (nat_eq f i)
  where
    or_false : (b : Bool) → b || false ≡ b
    or_false true = refl
    or_false false = refl
any_end f i (x ∷ xs) = ap (λ b. nat_eq f x || b) (any_end f i xs) ∙ or_assoc (nat_eq f x) (list_any (nat_eq f) xs) (nat_eq f i)
  where
    or_assoc : (a b c : Bool) → a || (b || c) ≡ (a || b) || c
    or_assoc true b c = refl
    or_assoc false b c = refl

-- of a number below the next one: below this one, or this one
with_this : (f i : ℕ) (r : ℕ → Bool) → r i ≡ true → (nat_lt f i && r f) || nat_eq f i ≡ nat_lt f (i + 1) && r f
with_this f i r h = elim (cases_eq f i) [
  | inl e ↦ subst (λ k. (nat_lt k i && r k) || nat_eq k i ≡ nat_lt k (i + 1) && r k) (sym e) (subst (λ b. (nat_lt i i && b) || nat_eq i i ≡ nat_lt i (i + 1) && b) (sym h) (this_one i))
  | inr ne ↦ other_one f i (r f) ne
]
  where
    this_one : (i : ℕ) → (nat_lt i i && true) || nat_eq i i ≡ nat_lt i (i + 1) && true
    this_one i = grind (arith, nat_tests)

    other_one : (f i : ℕ) (b : Bool) → (f ≡ i → ⊥) → (nat_lt f i && b) || nat_eq f i ≡ nat_lt f (i + 1) && b
    other_one f i true ne = grind (arith, nat_tests)
    other_one f i false ne = grind (arith, nat_tests)

without_this : (f i : ℕ) (r : ℕ → Bool) → r i ≡ false → nat_lt f i && r f ≡ nat_lt f (i + 1) && r f
without_this f i r h = elim (cases_eq f i) [
  | inl e ↦ subst (λ k. nat_lt k i && r k ≡ nat_lt k (i + 1) && r k) (sym e) (subst (λ b. nat_lt i i && b ≡ nat_lt i (i + 1) && b) (sym h) (this_one i))
  | inr ne ↦ other_one f i (r f) ne
]
  where
    this_one : (i : ℕ) → nat_lt i i && false ≡ nat_lt i (i + 1) && false
    this_one i = grind (arith, nat_tests)

    other_one : (f i : ℕ) (b : Bool) → (f ≡ i → ⊥) → nat_lt f i && b ≡ nat_lt f (i + 1) && b
    other_one f i true ne = grind (arith, nat_tests)
    other_one f i false ne = grind (arith, nat_tests)

-- one more file, which imports this one
pub importer_step : (table : List (List Bool)) (g count : ℕ) (importers : List ℕ) → AreImportersUpTo table g count importers → is_reached table count g ≡ true
    → AreImportersUpTo table g (count + 1) (importers ++ count ∷ [])
importer_step table g count importers s h = λ f.
    any_end f count importers ∙ ap (λ b. b || nat_eq f count) (s f) ∙ with_this f count (λ k. is_reached table k g) h

-- and one that doesn't
pub other_step : (table : List (List Bool)) (g count : ℕ) (importers : List ℕ) → AreImportersUpTo table g count importers → is_reached table count g ≡ false
    → AreImportersUpTo table g (count + 1) importers
other_step table g count importers s h = λ f. s f ∙ without_this f count (λ k. is_reached table k g) h

-- behind all files none is marked
past : (table : List (List Bool)) (f g : ℕ) → length table ≤ f → is_reached table f g ≡ false
past table f g h = ap (λ r. is_marked r g) (get_or_past table f [] h) ∙ no_mark g
  where
    no_mark : (g : ℕ) → is_marked [] g ≡ false
    no_mark zero = refl
    no_mark (suc g) = refl

pub importers_end : (table : List (List Bool)) (g count : ℕ) (importers : List ℕ) → count ≡ length table → AreImportersUpTo table g count importers → AreImportersOf table g importers
importers_end table g count importers e s = λ f. s f ∙ by_place f (nat_lt f count) refl
  where
    by_place : (f : ℕ) (b : Bool) → nat_lt f count ≡ b → nat_lt f count && is_reached table f g ≡ is_reached table f g
    by_place f true t = ap (λ b. b && is_reached table f g) t
    by_place f false t =
        let far : length table ≤ f = grind (arith, nat_tests) in
        ap (λ b. b && is_reached table f g) t ∙ sym (past table f g far)

-- ---- the same, over what the code has

pub reached_more : (edges : List (List ℕ)) (count : ℕ) (table next : List (List Bool)) (row kept : List Bool) → AreReachedUpTo edges count table → ((g : ℕ) → (is_marked row g ≡ true) ↔ Reaches edges count g)
    → kept ≡ row → next ≡ table ++ kept ∷ [] → AreReachedUpTo edges (count + 1) next
reached_more edges count table next row kept s h e k =
    subst (AreReachedUpTo edges (count + 1)) (sym (k ∙ ap (λ r. table ++ r ∷ []) e)) (reached_step edges count table row s h)

pub reached_end : (edges : List (List ℕ)) (count : ℕ) (table : List (List Bool)) → count ≡ length edges → AreReachedUpTo edges count table → AreReached edges table
reached_end edges count table e s = record { size = s.size ∙ e; each = λ f g less. s.each f g (subst (λ n. f < n) (sym e) less) }

pub importer_more : (table : List (List Bool)) (g count : ℕ) (importers next : List ℕ) (b : Bool) → AreImportersUpTo table g count importers → b ≡ is_reached table count g
    → next ≡ importers ++ cond b (count ∷ []) [] → AreImportersUpTo table g (count + 1) next
importer_more table g count importers next true s h e = subst (AreImportersUpTo table g (count + 1)) (sym e) (importer_step table g count importers s (sym h))
importer_more table g count importers next false s h e = subst (AreImportersUpTo table g (count + 1)) (sym (e ∙ append-nil importers)) (other_step table g count importers s (sym h))

-- the rows so far are those of the files so far
pub record AreImportersOfEachUpTo (table : List (List Bool)) (count : ℕ) (winners : List (List ℕ)) : Type 0 where
  pub size : length winners ≡ count
  pub each : (g : ℕ) → g < count → AreImportersOf table g (get_or winners g [])

pub no_rows : (table : List (List Bool)) → AreImportersOfEachUpTo table 0 []
no_rows table = record { size = refl; each = λ g h. absurd (omega (arith, h)) }

rows_step : (table : List (List Bool)) (count : ℕ) (winners : List (List ℕ)) (row : List ℕ) → AreImportersOfEachUpTo table count winners → AreImportersOf table count row
    → AreImportersOfEachUpTo table (count + 1) (winners ++ row ∷ [])
rows_step table count winners row s h = record {
  size = length-append winners (row ∷ []) ∙ ap (λ n. n + 1) s.size;
  each = λ g less. elim (cases_eq g count) [
    | inl e ↦
        subst (λ n. AreImportersOf table n (get_or (winners ++ row ∷ []) g [])) (sym e)
        (subst (AreImportersOf table count) (sym (get_or_push winners row [] g (s.size ∙ sym e))) h)
    | inr ne ↦
        let below : g < count = omega (arith, less, ne) in
        let size = s.size in
        let within : g < length winners = omega (arith, below, size) in
        subst (AreImportersOf table g) (sym (get_or_append_left winners (row ∷ []) [] g within)) (s.each g below)
  ];
}

pub rows_more : (table : List (List Bool)) (count : ℕ) (winners next : List (List ℕ)) (row : List ℕ) → AreImportersOfEachUpTo table count winners → AreImportersOf table count row
    → next ≡ winners ++ row ∷ [] → AreImportersOfEachUpTo table (count + 1) next
rows_more table count winners next row s h e = subst (AreImportersOfEachUpTo table (count + 1)) (sym e) (rows_step table count winners row s h)

pub rows_end : (table : List (List Bool)) (count : ℕ) (winners : List (List ℕ)) → count ≡ length table → AreImportersOfEachUpTo table count winners → AreImportersOfEach table winners
rows_end table count winners e s = record { size = s.size ∙ e; each = λ g less. s.each g (subst (λ n. g < n) (sym e) less) }
