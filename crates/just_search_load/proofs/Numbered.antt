-- The numbers of sources, as they grow, and as the last ones are taken away.
use Rattle.std.proofs.Common.{◌≡◌, ℕ, Bool, true, false, cond, List, [], ◌∷◌, ◌++◌, length, take, Option, Some, None, is_some, bytes_eq, refl, ap, sym, ◌∙◌, subst}
use Rattle.std.specs.Prelude.{nat_lt, Ok}
use Rattle.std.specs.BTreeMap.{BTreeMap, get, Updates, is_at, IsOrdered}
use Rattle.std.specs.Cmp.Lexicographic.{slice_cmp}
use Rattle.std.specs.List.{filter}
use Rattle.std.specs.Map.{lookup, keys_of}
use Rattle.std.specs.Ordering.{nat_cmp}
use Rattle.std.proofs.lemmas.Cmp.{eq_by_cmp_equiv, nat_list_cmp_total}
use Rattle.std.proofs.lemmas.Map.Entries.{option_filter, lookup-filter-values}
use Rattle.std.proofs.lemmas.Map.Keys.{IsDistinct-from_sorted}
use Rattle.std.proofs.lemmas.Map.Text.{is_eq-slice_cmp}
use Rattle.std.proofs.lemmas.Slice.Eq.{bytes_eq-Decides}
use Rattle.just_path.specs.Clean.{cleaned}
use Rattle.just_lang_types.specs.declared.source.Source.{Source}
use Rattle.just_host_record.specs.World.{World}
use Rattle.just_search_load.specs.Loads.{source_at, LoadsOne}
use Rattle.just_search_load.specs.Shown.{ReadsText}
use Rattle.just_search_load.specs.Numbers.{is_placed, number_at, number_of, AreNumbered}
use Rattle.just_search_load.proofs.Positions.{or_last, is_below, position_push, position_take}

-- texts that are told equal are equal
bytes_is : (x y : List ℕ) → bytes_eq x y ≡ true → x ≡ y
bytes_is x y h = (bytes_eq-Decides x y).0 h

bytes_self : (x : List ℕ) → bytes_eq x x ≡ true
bytes_self x = (bytes_eq-Decides x x).1 refl

-- what stands at a place, where the map has one more entry for a source that had none
joined : (b : Bool) (o : Option ℕ) (k : ℕ) → (b ≡ true → o ≡ None) → cond b (Some k) o ≡ or_last o b k
joined true o k h = sym (ap (λ t. or_last t true k) (h refl))
joined false None k h = refl
joined false (Some n) k h = refl

-- one more source gets the next number, all others keep theirs
pub numbered_more : (sources : List Source) (m n : BTreeMap (List ℕ) ℕ) (x : Source) (place : List ℕ) (k : ℕ) → AreNumbered sources m → Updates (slice_cmp nat_cmp) m n place (Some k) → k ≡ length sources → place ≡ cleaned x.path → number_at sources place ≡ None → AreNumbered (sources ++ x ∷ []) n
numbered_more sources m n x place k numbered updates last is none q =
    let same : is_at (slice_cmp nat_cmp place) q ≡ is_placed q x = is_eq-slice_cmp place q ∙ ap (λ t. bytes_eq t q) is in
    updates.0 q
    ∙ ap (λ i. cond (is_at (slice_cmp nat_cmp place) q) (Some i) (get (slice_cmp nat_cmp) m q)) last
    ∙ ap (λ b. cond b (Some (length sources)) (get (slice_cmp nat_cmp) m q)) same
    ∙ ap (λ o. cond (is_placed q x) (Some (length sources)) o) (numbered q)
    ∙ joined (is_placed q x) (number_at sources q) (length sources) (λ h. subst (λ t. number_at sources t ≡ None) (bytes_is place q (ap (λ t. bytes_eq t q) is ∙ h)) none)
    ∙ sym (position_push (is_placed q) sources x)

-- a map without entries is that of no sources
pub numbered_none : (m : BTreeMap (List ℕ) ℕ) → m.entries ≡ [] → AreNumbered [] m
numbered_none m e q = ap (λ es. lookup (is_at (slice_cmp nat_cmp q)) es) e

-- the number of the last source
pub number_last : (sources new : List Source) (path text place : List ℕ) → place ≡ cleaned path → number_at sources place ≡ None → new ≡ sources ++ source_at path text ∷ [] → number_of new path ≡ Some (length sources)
number_last sources new path text place is none more =
    ap (λ xs. number_of xs path) more
    ∙ position_push (is_placed (cleaned path)) sources (source_at path text)
    ∙ ap (λ o. or_last o (is_placed (cleaned path) (source_at path text)) (length sources)) (subst (λ t. number_at sources t ≡ None) is none)
    ∙ ap (λ b. cond b (Some (length sources)) None) (bytes_self (cleaned path))

-- the entries of the numbers below one are those of the first sources
pub numbered_less : (sources : List Source) (m n : BTreeMap (List ℕ) ℕ) (k : ℕ) → AreNumbered sources m → IsOrdered (slice_cmp nat_cmp) m → n.entries ≡ filter (λ e. nat_lt e.1 k) m.entries → AreNumbered (take k sources) n
numbered_less sources m n k numbered ordered kept q =
    ap (λ es. lookup (is_at (slice_cmp nat_cmp q)) es) kept
    ∙ lookup-filter-values (eq_by_cmp_equiv nat_list_cmp_total) (is_below k) q m.entries (IsDistinct-from_sorted (slice_cmp nat_cmp) (keys_of m.entries) ordered)
    ∙ ap (λ o. option_filter (is_below k) o) (numbered q)
    ∙ sym (position_take (is_placed q) k sources)

some_stays : (o : Option ℕ) (b : Bool) (k : ℕ) → is_some o ≡ true → is_some (or_last o b k) ≡ true
some_stays None b k h = absurd (let no : ⊥ = cc in no)
some_stays (Some n) b k h = refl

-- a path that has a number has one still
pub number_stays : (sources : List Source) (x : Source) (path : List ℕ) → is_some (number_of sources path) ≡ true → is_some (number_of (sources ++ x ∷ []) path) ≡ true
number_stays sources x path h =
    ap is_some (position_push (is_placed (cleaned path)) sources x) ∙ some_stays (number_of sources path) (is_placed (cleaned path) x) (length sources) h

-- a path that was loaded is left as it is
pub one_before : (told : Option World) (sources : List Source) (path : List ℕ) (n : ℕ) → number_of sources path ≡ Some n → LoadsOne told sources path sources
one_before told sources path n is = LoadsOne.loaded_before n is

-- any other is loaded
pub one_now : (told : Option World) (sources new : List Source) (path text : List ℕ) → number_of sources path ≡ None → ReadsText told path (Ok text) → new ≡ sources ++ source_at path text ∷ [] → LoadsOne told sources path new
one_now told sources new path text none read is = subst (λ xs. LoadsOne told sources path xs) (sym is) (LoadsOne.loaded_now text none read)
