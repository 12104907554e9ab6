-- The table has the places of the items so far.
use Rattle.std.proofs.Common.{◌≡◌, ℕ, List, take}
use Rattle.std.specs.Ordering.{nat_cmp}
use Rattle.std.specs.Cmp.Lexicographic.{slice_cmp}
use Rattle.std.specs.BTreeMap.{get_by}
use Rattle.just_lang_spots.specs.Entries.{entries, last_place}
use Rattle.just_lang_spots.specs.Items.{item_name}
use Rattle.just_lang_spots.proofs.index.index_of.Given as goal

abbrev pub invariant-items : goal.invariant-items
invariant-items l =
    (q : List ℕ) → get_by (λ k. slice_cmp nat_cmp q k.now) l.places ≡ last_place item_name q (entries (take l.at l.items))
