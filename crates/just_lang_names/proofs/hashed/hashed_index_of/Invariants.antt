-- The table has the places of the items so far.
use Rattle.std.proofs.Common.{◌≡◌, ℕ, List, take}
use Rattle.just_lang_spots.specs.Entries.{entries, last_place}
use Rattle.just_lang_spots.specs.Items.{item_name}
use Rattle.just_lang_names.specs.HashedPlaces.{hashed_place}
use Rattle.just_lang_names.proofs.hashed.hashed_index_of.Given as goal

abbrev pub invariant-items : goal.invariant-items
invariant-items l = (q : List ℕ) → hashed_place l.index q ≡ last_place item_name q (entries (take l.at l.items))
