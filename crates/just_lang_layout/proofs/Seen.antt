-- Names that were seen, and the declarations behind which they stand.
use Rattle.std.proofs.Common.{◌≡◌, ◌<◌, ◌+◌, ℕ, List, [], ◌∷◌, ◌++◌, take, drop, get_or, length, not, refl, sym, ◌∙◌, ap, subst, Bool, true, false, reverse}
use Rattle.std.specs.Prelude.{◌||◌, if◌then◌else◌}
use Rattle.std.specs.List.{list_any}
use mathlib.Core.Bool.{cond}
use denote.Ref.{Bor}
use Rattle.std.specs.BTreeSet.{BTreeSet, contains, Updates}
use Rattle.std.specs.Str.{bytes_eq}
use Rattle.std.proofs.lemmas.Map.Text.{is_eq-slice_cmp}
use Rattle.std.proofs.lemmas.List.{reverse-append}
use Rattle.std.proofs.lemmas.List.Folds.{list_any-append}
use Rattle.just_lang_layout.specs.declared.pending.Declaration.{Declaration}
use Rattle.just_lang_layout.specs.Modules.{has_name, last_of_each}
use Rattle.just_lang_layout.specs.Pending.{text_cmp, HasNames}
use Rattle.just_lang_spots.proofs.ListLaws.{drop_here}
use Rattle.just_lang_layout.proofs.Lists.{front_more}

or_front : (b c : Bool) → cond b true c ≡ (b || c)
or_front true c = refl
or_front false c = refl

or_last : (b c : Bool) → cond b true c ≡ (c || (b || false))
or_last true true = refl
or_last true false = refl
or_last false true = refl
or_last false false = refl

not_not : (b : Bool) → not (not b) ≡ b
not_not true = refl
not_not false = refl

-- a set that gains the name of a declaration in front of others has its name and theirs
pub one_in_front : (ds : List Declaration) (d : Declaration) (k : Bor (List ℕ)) (old new : BTreeSet (Bor (List ℕ))) → k.now ≡ d.name
    → Updates text_cmp old new k true → HasNames ds old → HasNames (d ∷ ds) new
one_in_front ds d k old new e h same = λ q.
    h.0 q ∙ ap (λ b. cond b true (contains text_cmp old q)) (is_eq-slice_cmp k.now q.now) ∙ ap (λ b. cond (bytes_eq k.now q.now) true b) (same q)
    ∙ or_front (bytes_eq k.now q.now) (list_any (has_name q.now) ds) ∙ ap (λ n. bytes_eq n q.now || list_any (has_name q.now) ds) e

-- the same, by the place at which the declaration stands
pub names_at : (ds : List Declaration) (i j : ℕ) (d : Declaration) (k : Bor (List ℕ)) (old new : BTreeSet (Bor (List ℕ))) → i + 1 ≡ j → i < length ds → d ≡ get_or ds i d
    → k.now ≡ d.name → Updates text_cmp old new k true → HasNames (drop j ds) old → HasNames (drop i ds) new
names_at ds i j d k old new p h e n u same =
    subst (λ (xs : List Declaration). HasNames xs new) (sym (drop_here ds i d h e))
    (one_in_front (drop (i + 1) ds) d k old new n u (subst (λ (m : ℕ). HasNames (drop m ds) old) (sym p) same))

-- whether a later one has the name of a declaration
later : (ds : List Declaration) (i j : ℕ) (d : Declaration) (k : Bor (List ℕ)) (old : BTreeSet (Bor (List ℕ))) (b c : Bool) → i + 1 ≡ j → k.now ≡ d.name → HasNames (drop j ds) old
    → b ≡ not (contains text_cmp old k) → b ≡ not c → list_any (has_name d.name) (drop (i + 1) ds) ≡ c
later ds i j d k old b c p n same e f =
    ap (λ (m : ℕ). list_any (has_name d.name) (drop m ds)) p ∙ ap (λ (t : List ℕ). list_any (has_name t) (drop j ds)) (sym n) ∙ sym (same k) ∙ sym (not_not (contains text_cmp old k))
    ∙ ap not (sym e ∙ f) ∙ not_not c

-- a declaration that no later one beats stands in front
pub kept_at : (ds last : List Declaration) (i j : ℕ) (d : Declaration) (k : Bor (List ℕ)) (old : BTreeSet (Bor (List ℕ))) (b : Bool) → i + 1 ≡ j → i < length ds → d ≡ get_or ds i d
    → k.now ≡ d.name → HasNames (drop j ds) old → b ≡ not (contains text_cmp old k) → b ≡ true → reverse last ≡ last_of_each (drop j ds)
    → reverse (last ++ d ∷ []) ≡ last_of_each (drop i ds)
kept_at ds last i j d k old b p h e n same new is s =
    reverse-append last (d ∷ [])
    ∙ ap (λ (xs : List Declaration). d ∷ xs) (s ∙ ap (λ (m : ℕ). last_of_each (drop m ds)) (sym p))
    ∙ ap (λ (t : Bool). if t then last_of_each (drop (i + 1) ds) else d ∷ last_of_each (drop (i + 1) ds)) (sym (later ds i j d k old b false p n same new is))
    ∙ ap last_of_each (sym (drop_here ds i d h e))

-- one that a later one beats doesn't
pub passed_at : (ds last : List Declaration) (i j : ℕ) (d : Declaration) (k : Bor (List ℕ)) (old : BTreeSet (Bor (List ℕ))) (b : Bool) → i + 1 ≡ j → i < length ds → d ≡ get_or ds i d
    → k.now ≡ d.name → HasNames (drop j ds) old → b ≡ not (contains text_cmp old k) → b ≡ false → reverse last ≡ last_of_each (drop j ds)
    → reverse last ≡ last_of_each (drop i ds)
passed_at ds last i j d k old b p h e n same new is s =
    s ∙ ap (λ (m : ℕ). last_of_each (drop m ds)) (sym p)
    ∙ ap (λ (t : Bool). if t then last_of_each (drop (i + 1) ds) else d ∷ last_of_each (drop (i + 1) ds)) (sym (later ds i j d k old b true p n same new is))
    ∙ ap last_of_each (sym (drop_here ds i d h e))

-- the names of one declaration more, behind those so far
pub names_behind : (ds : List Declaration) (i : ℕ) (d : Declaration) (k : Bor (List ℕ)) (old new : BTreeSet (Bor (List ℕ))) → i < length ds → d ≡ get_or ds i d → k.now ≡ d.name
    → Updates text_cmp old new k true → HasNames (take i ds) old → HasNames (take (i + 1) ds) new
names_behind ds i d k old new h e n u same = λ q.
    u.0 q ∙ ap (λ b. cond b true (contains text_cmp old q)) (is_eq-slice_cmp k.now q.now) ∙ ap (λ b. cond (bytes_eq k.now q.now) true b) (same q)
    ∙ or_last (bytes_eq k.now q.now) (list_any (has_name q.now) (take i ds)) ∙ ap (λ m. list_any (has_name q.now) (take i ds) || (bytes_eq m q.now || false)) n
    ∙ sym (list_any-append (has_name q.now) (take i ds) (d ∷ [])) ∙ ap (list_any (has_name q.now)) (front_more ds i d h e)
