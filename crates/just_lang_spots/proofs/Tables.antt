-- The tables of names after one more item.
use Rattle.std.proofs.Common.{◌≡◌, ℕ, ◌+◌, ◌<◌, true, ◌&&◌, List, length, take, get_or, Some, Ordering, ap, ◌∙◌}
use denote.Ref.{Bor}
use mathlib.Core.Bool.{cond}
use Rattle.std.specs.Prelude.{nat_eq, bytes_eq}
use Rattle.std.specs.List.{list_any}
use Rattle.std.specs.Ordering.{is_eq, nat_cmp, ordering_then}
use Rattle.std.specs.Cmp.Lexicographic.{slice_cmp}
use Rattle.std.specs.BTreeMap.{BTreeMap, get, Updates}
use Rattle.std.specs.BTreeSet.{BTreeSet, contains, Updates as SetUpdates}
use Rattle.std.proofs.lemmas.Map.Text.{is_eq-slice_cmp}
use Rattle.just_lang_spots.specs.declared.entries.Entry.{Entry}
use Rattle.just_lang_spots.specs.Entries.{entries, last_place}
use Rattle.just_lang_spots.specs.Standing.{has_name}
use Rattle.just_lang_spots.specs.Items.{item_name}
use Rattle.just_lang_spots.proofs.Seen.{text_cmp}
use Rattle.just_lang_spots.proofs.StandingLaws.{index_step, pairs_step}

-- a text to be looked up
abbrev pub query : List ℕ → Bor (List ℕ)
query q = record { ref_ptr = (0, 0); now = q }

-- the order of pairs of a file and a name
abbrev pub pair_cmp : ℕ × Bor (List ℕ) → ℕ × Bor (List ℕ) → Ordering
pair_cmp x y = ordering_then (nat_cmp x.0 y.0) (slice_cmp nat_cmp x.1.now y.1.now)

pub index_insert : (items : List Entry) (i : ℕ) (x : Entry) (q : List ℕ) (key : Bor (List ℕ)) (old new : BTreeMap (Bor (List ℕ)) ℕ) → i < length items → x ≡ get_or items i x
    → key.now ≡ item_name x.item.now → Updates text_cmp old new key (Some i) → get text_cmp old (query q) ≡ last_place item_name q (entries (take i items))
    → get text_cmp new (query q) ≡ last_place item_name q (entries (take (i + 1) items))
index_insert items i x q key old new lt e n u h =
    index_step items i x q (get text_cmp old (query q)) (get text_cmp new (query q)) lt e h
    (u.0 (query q) ∙ ap (λ b. cond b (Some i) (get text_cmp old (query q))) (is_eq-slice_cmp key.now q ∙ ap (λ t. bytes_eq t q) n))

pub pairs_insert : (items : List Entry) (i : ℕ) (x : Entry) (file : ℕ) (q : List ℕ) (key : Bor (List ℕ)) (old new : BTreeSet (ℕ × Bor (List ℕ))) → i < length items → x ≡ get_or items i x
    → key.now ≡ item_name x.item.now → SetUpdates pair_cmp old new (x.file, key) true
    → contains pair_cmp old (file, query q) ≡ list_any (λ y. nat_eq y.0 file && has_name item_name q y) (entries (take i items))
    → contains pair_cmp new (file, query q) ≡ list_any (λ y. nat_eq y.0 file && has_name item_name q y) (entries (take (i + 1) items))
pairs_insert items i x file q key old new lt e n u h =
    pairs_step items i x file q (contains pair_cmp old (file, query q)) (contains pair_cmp new (file, query q)) lt e h
    (u.0 (file, query q) ∙ ap (λ t. cond (is_eq (ordering_then (nat_cmp x.file file) (slice_cmp nat_cmp t q))) true (contains pair_cmp old (file, query q))) n)
