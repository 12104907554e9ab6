-- Looking a place up among things, one after another, and what taking out and putting in makes of their map.
use Rattle.std.proofs.Common.{◌≡◌, ℕ, zero, suc, ◌+◌, ◌<◌, ◌≤◌, ◌||◌, Bool, refl, arith, zero-add, List, [], ◌∷◌, ◌++◌, length, get_or, drop, map, cond, not, true, false, Option, Some, None, ap, sym, subst, ◌∙◌}
use Rattle.std.proofs.lemmas.List.{at_drop_more}
use Rattle.std.proofs.lemmas.Map.Text.{is_eq-slice_cmp}
use Rattle.std.specs.Ordering.{nat_cmp, eq_by_cmp}
use Rattle.std.specs.Cmp.Lexicographic.{slice_cmp}
use Rattle.std.specs.FinMap.{FinMap, find, get, insert, remove, from_entries, get-from_entries, get-remove, get-insert, from_entries_push, same_map, IsAntisymmetric, nat_cmp-IsAntisymmetric, slice_cmp-IsAntisymmetric}
use Rattle.std.specs.Str.{bytes_eq}
use Rattle.std.specs.List.{list_any, range_with_len, filter}
use Rattle.std.proofs.lemmas.Cmp.{nat_list_cmp_total}
use Rattle.std.proofs.lemmas.Slice.Eq.{bytes_eq-Decides}
use Rattle.std.proofs.lemmas.List.FromFn.{length-range_with_len, get_or-range_with_len}
use Rattle.std.proofs.lemmas.List.Folds.{list_any_at}
use Rattle.std.proofs.lemmas.List.{length-map, get_or-map, map-append}
use Rattle.just_path.specs.View.{place_under}
use Rattle.just_host_record.specs.declared.tree.Thing.{Thing}
use Rattle.just_host_record.specs.Sights.{Tree}
use Rattle.just_host_memory.specs.declared.place.Place.{Place}
use Rattle.just_host_memory.specs.Files.{by_text, files_in}
use Rattle.just_host_memory.specs.Playing.{ArePlacesOf, changed, after_effects, after_changes}

-- the next thing is the one that is found, or is passed
pub find_more : (path : List ℕ) (es : List (List ℕ × Thing)) (i : ℕ) (d : List ℕ × Thing) → i < length es → find (slice_cmp nat_cmp) path (drop i es) ≡ cond (bytes_eq path (get_or es i d).0) (Some (get_or es i d).1) (find (slice_cmp nat_cmp) path (drop (i + 1) es))
find_more path es i d h =
    at_drop_more (find (slice_cmp nat_cmp) path) es i d h
    ∙ ap (λ b. cond b (Some (get_or es i d).1) (find (slice_cmp nat_cmp) path (drop (i + 1) es))) (is_eq-slice_cmp path (get_or es i d).0)

-- the next entry is the one that is found
pub find_hit : (path key : List ℕ) (es : List (List ℕ × Thing)) (i : ℕ) (e : List ℕ × Thing) → i < length es → e ≡ get_or es i e → key ≡ e.0 → bytes_eq path key ≡ true → find (slice_cmp nat_cmp) path (drop i es) ≡ Some e.1
find_hit path key es i e h is named same =
    let hit : bytes_eq path (get_or es i e).0 ≡ true = cc in
    let item : get_or es i e ≡ e = cc in
    find_more path es i e h ∙ ap (λ b. cond b (Some (get_or es i e).1) (find (slice_cmp nat_cmp) path (drop (i + 1) es))) hit ∙ ap (λ x. Some x.1) item

-- the next entry is passed
pub find_pass : (path key : List ℕ) (es : List (List ℕ × Thing)) (i : ℕ) (e : List ℕ × Thing) → i < length es → e ≡ get_or es i e → key ≡ e.0 → bytes_eq path key ≡ false → find (slice_cmp nat_cmp) path (drop i es) ≡ find (slice_cmp nat_cmp) path (drop (i + 1) es)
find_pass path key es i e h is named other =
    let passed : bytes_eq path (get_or es i e).0 ≡ false = cc in
    find_more path es i e h ∙ ap (λ b. cond b (Some (get_or es i e).1) (find (slice_cmp nat_cmp) path (drop (i + 1) es))) passed

-- a thing of a list, by the text of its place
pub item_at : (things : List (Place × Thing)) (i : ℕ) (e : Place × Thing) → i < length things → e ≡ get_or things i e → by_text e ≡ get_or (map by_text things) i (by_text e)
item_at things i e inside is = ap by_text is ∙ sym (get_or-map by_text things i e (by_text e) inside)

-- a place in a list of things is one in the list of their entries
pub within : (things : List (Place × Thing)) (i : ℕ) → i < length things → i < length (map by_text things)
within things i inside = subst (λ n. i < n) (sym (length-map things by_text)) inside

-- the next thing is found
pub thing_hit : (place key : List ℕ) (things : List (Place × Thing)) (i : ℕ) (e : Place × Thing) → i < length things → e ≡ get_or things i e → key ≡ e.0.path → bytes_eq place key ≡ true → find (slice_cmp nat_cmp) place (drop i (map by_text things)) ≡ Some e.1
thing_hit place key things i e inside is named same =
    find_hit place key (map by_text things) i (by_text e) (within things i inside) (item_at things i e inside is) named same

-- the next thing is passed
pub thing_missed : (place key : List ℕ) (things : List (Place × Thing)) (i : ℕ) (e : Place × Thing) → i < length things → e ≡ get_or things i e → key ≡ e.0.path → bytes_eq place key ≡ false → find (slice_cmp nat_cmp) place (drop i (map by_text things)) ≡ find (slice_cmp nat_cmp) place (drop (i + 1) (map by_text things))
thing_missed place key things i e inside is named other =
    find_pass place key (map by_text things) i (by_text e) (within things i inside) (item_at things i e inside is) named other

-- a test that holds at a number below n, and one that holds at none
pub any_below : (p : ℕ → Bool) (n k : ℕ) → k < n → p k ≡ true → list_any p (range_with_len 0 n) ≡ true
any_below p n k h holds =
    let is : get_or (range_with_len 0 n) k 0 ≡ k = get_or-range_with_len 0 n k 0 h ∙ zero-add k in
    list_any_at p (range_with_len 0 n) k 0 (rw length-range_with_len h) (ap p is ∙ holds)

-- a test that holds at no number from a on
none_from : (p : ℕ → Bool) (a n : ℕ) → ((j : ℕ) → a ≤ j → j < a + n → p j ≡ false) → list_any p (range_with_len a n) ≡ false
none_from p a zero h = refl
none_from p a (suc n) h =
    ap (λ b. b || list_any p (range_with_len (a + 1) n)) (h a (omega arith) (omega arith)) ∙ none_from p (a + 1) n (λ j low high. h j (omega arith) (omega arith))

-- a test that holds at no number below n
pub none_below : (p : ℕ → Bool) (n : ℕ) → ((j : ℕ) → j < n → p j ≡ false) → list_any p (range_with_len 0 n) ≡ false
none_below p n h = none_from p 0 n (λ j low high. h j (omega arith))

-- texts that compare equal are equal
pub same_text : (x y : List ℕ) → eq_by_cmp (slice_cmp nat_cmp) x y ≡ true → x ≡ y
same_text x y h = (bytes_eq-Decides x y).0 (sym (is_eq-slice_cmp x y) ∙ h)

-- a text compares equal to itself
same_itself : (x : List ℕ) → eq_by_cmp (slice_cmp nat_cmp) x x ≡ true
same_itself x = is_eq-slice_cmp x x ∙ (bytes_eq-Decides x x).1 refl

-- what is none by a test stays none by it
none_again : (t : Bool) (x y : Option Thing) → cond t None (cond t x y) ≡ cond t None y
none_again true x y = refl
none_again false x y = refl

-- two tests that don't hold together may be asked in either order
none_first : (a t : Bool) (x y : Option Thing) → (a ≡ true → t ≡ true → ⊥) → cond a x (cond t None y) ≡ cond t None (cond a x y)
none_first true true x y apart = absurd (apart refl refl)
none_first true false x y apart = refl
none_first false t x y apart = refl

-- an entry that is kept is found, and one that is dropped isn't
kept_or_not : (path q : List ℕ) (e : List ℕ × Thing) (b : Bool) → bytes_eq e.0 path ≡ b → (kept es : List (List ℕ × Thing)) → find (slice_cmp nat_cmp) q kept ≡ cond (eq_by_cmp (slice_cmp nat_cmp) q path) None (find (slice_cmp nat_cmp) q es) → find (slice_cmp nat_cmp) q (cond (not b) (e ∷ kept) kept) ≡ cond (eq_by_cmp (slice_cmp nat_cmp) q path) None (find (slice_cmp nat_cmp) q (e ∷ es))
kept_or_not path q e true is kept es h =
    let same : e.0 ≡ path = (bytes_eq-Decides e.0 path).0 is in
    h ∙ sym (none_again (eq_by_cmp (slice_cmp nat_cmp) q path) (Some e.1) _)
    ∙ ap (λ k. cond (eq_by_cmp (slice_cmp nat_cmp) q path) None (cond (eq_by_cmp (slice_cmp nat_cmp) q k) (Some e.1) (find (slice_cmp nat_cmp) q es))) (sym same)
kept_or_not path q e false is kept es h =
    let apart : eq_by_cmp (slice_cmp nat_cmp) q e.0 ≡ true → eq_by_cmp (slice_cmp nat_cmp) q path ≡ true → ⊥ = λ a t.
    let one : q ≡ e.0 = same_text q e.0 a in
    let two : q ≡ path = same_text q path t in
    let hit : bytes_eq e.0 path ≡ true = (bytes_eq-Decides e.0 path).1 (sym one ∙ two) in
    cc in
    ap (λ o. cond (eq_by_cmp (slice_cmp nat_cmp) q e.0) (Some e.1) o) h
    ∙ none_first (eq_by_cmp (slice_cmp nat_cmp) q e.0) (eq_by_cmp (slice_cmp nat_cmp) q path) (Some e.1) (find (slice_cmp nat_cmp) q es) apart

-- where the entries of a path are dropped, nothing is found at it, and elsewhere what was
find_without : (path q : List ℕ) (es : List (List ℕ × Thing)) → find (slice_cmp nat_cmp) q (filter (λ e. not (bytes_eq e.0 path)) es) ≡ cond (eq_by_cmp (slice_cmp nat_cmp) q path) None (find (slice_cmp nat_cmp) q es)
find_without path q [] = elim (eq_by_cmp (slice_cmp nat_cmp) q path) as (λ t. ◌≡◌ {A = Option Thing} None (cond t None None)) [ true ↦ refl | false ↦ refl ]
find_without path q (e ∷ es) = kept_or_not path q e (bytes_eq e.0 path) refl (filter (λ x. not (bytes_eq x.0 path)) es) es (find_without path q es)

-- texts that aren't apart in their order are equal
texts_apart : IsAntisymmetric (slice_cmp nat_cmp)
texts_apart = slice_cmp-IsAntisymmetric nat_cmp-IsAntisymmetric

-- to drop the entries of a path is to remove it
pub from_entries-without : (path : List ℕ) (es : List (List ℕ × Thing)) → from_entries {R = slice_cmp nat_cmp} (filter (λ e. not (bytes_eq e.0 path)) es) ≡ remove (from_entries es) path
from_entries-without path es =
    same_map nat_list_cmp_total texts_apart _ _ (λ q.
    get-from_entries nat_list_cmp_total _ q ∙ find_without path q es
    ∙ ap (λ o. cond (eq_by_cmp (slice_cmp nat_cmp) q path) None o) (sym (get-from_entries nat_list_cmp_total es q))
    ∙ sym (get-remove nat_list_cmp_total (from_entries es) path q))

-- what is put over what was taken out is what is put
put_again : (t : Bool) (v : Thing) (o : Option Thing) → cond t (Some v) (cond t None o) ≡ cond t (Some v) o
put_again true v o = refl
put_again false v o = refl

-- to push an entry where the path was removed is to insert it
pub from_entries-replaced : (path : List ℕ) (v : Thing) (es : List (List ℕ × Thing)) (m : FinMap (slice_cmp nat_cmp) Thing) → from_entries {R = slice_cmp nat_cmp} es ≡ remove m path → from_entries {R = slice_cmp nat_cmp} (es ++ (path, v) ∷ []) ≡ insert m path v
from_entries-replaced path v es m is =
    let gone : find (slice_cmp nat_cmp) path es ≡ None =
    sym (get-from_entries nat_list_cmp_total es path) ∙ ap (λ n. get n path) is
    ∙ get-remove nat_list_cmp_total m path path ∙ ap (λ b. cond b None (get m path)) (same_itself path) in
    from_entries_push nat_list_cmp_total texts_apart es path v gone
    ∙ same_map nat_list_cmp_total texts_apart _ _ (λ q.
    get-insert nat_list_cmp_total _ path v q
    ∙ ap (λ n. cond (eq_by_cmp (slice_cmp nat_cmp) q path) (Some v) (get n q)) is
    ∙ ap (λ o. cond (eq_by_cmp (slice_cmp nat_cmp) q path) (Some v) o) (get-remove nat_list_cmp_total m path q)
    ∙ put_again (eq_by_cmp (slice_cmp nat_cmp) q path) v (get m q)
    ∙ sym (get-insert nat_list_cmp_total m path v q))

-- to take the texts of what is kept or not is to keep the texts or not
filter_case : (b : Bool) (x : Place × Thing) (rest : List (Place × Thing)) → map by_text (cond b (x ∷ rest) rest) ≡ cond b (by_text x ∷ map by_text rest) (map by_text rest)
filter_case true x rest = refl
filter_case false x rest = refl

-- to drop the things of a place is to drop their entries
filtered_texts : (place : List ℕ) (things : List (Place × Thing)) → map by_text (filter (λ e. not (bytes_eq e.0.path place)) things) ≡ filter (λ e. not (bytes_eq e.0 place)) (map by_text things)
filtered_texts place [] = refl
filtered_texts place (e ∷ es) =
    filter_case (not (bytes_eq e.0.path place)) e (filter (λ x. not (bytes_eq x.0.path place)) es)
    ∙ ap (λ xs. cond (not (bytes_eq e.0.path place)) (by_text e ∷ xs) xs) (filtered_texts place es)

-- to drop the things of a place is to take it out of the map
pub files_in-without : (place : List ℕ) (things : List (Place × Thing)) → files_in (filter (λ e. not (bytes_eq e.0.path place)) things) ≡ remove (files_in things) place
files_in-without place things = ap (from_entries {R = slice_cmp nat_cmp}) (filtered_texts place things) ∙ from_entries-without place (map by_text things)

-- to push a thing where its place was taken out is to put it there
pub files_in-replaced : (place : Place) (v : Thing) (things : List (Place × Thing)) (m : FinMap (slice_cmp nat_cmp) Thing) → files_in things ≡ remove m place.path → files_in (things ++ (place, v) ∷ []) ≡ insert m place.path v
files_in-replaced place v things m is =
    ap (from_entries {R = slice_cmp nat_cmp}) (map-append by_text things ((place, v) ∷ []))
    ∙ from_entries-replaced place.path v (map by_text things) m is

-- places of effects lead where the effects' paths do
pub after_changes-places : (folder : List ℕ) (places : List Place) (effects : List (List ℕ × Option Thing)) (tree : Tree) → ArePlacesOf folder places effects → after_changes tree places effects ≡ after_effects folder tree effects
after_changes-places folder [] [] tree h = refl
after_changes-places folder [] (e ∷ es) tree h = absurd cc
after_changes-places folder (p ∷ ps) [] tree h = refl
after_changes-places folder (p ∷ ps) (e ∷ es) tree h =
    let first : p.path ≡ place_under folder e.0 = cc in
    let rest : ArePlacesOf folder ps es = cc in
    ap (λ q. after_changes (changed tree q e.1) ps es) first ∙ after_changes-places folder ps es (changed tree (place_under folder e.0) e.1) rest
