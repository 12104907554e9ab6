-- The last ones from a place on, the last one first, and the names of all from there.
use Rattle.std.proofs.Common.{◌≡◌, ◌≤◌, ℕ, List, length, drop, reverse}
use denote.Ref.{Bor}
use Rattle.std.specs.HashSet.{contains}
use Rattle.std.specs.List.{list_any}
use Rattle.just_lang_spots.specs.Entries.{entries}
use Rattle.just_lang_spots.specs.Items.{item_name}
use Rattle.just_lang_spots.specs.Standing.{last_of_each, has_name}
use Rattle.just_lang_spots.proofs.Seen.{text_eq}
use Rattle.just_lang_spots.proofs.winners.last_of_each.Given as goal

abbrev pub invariant-items : goal.invariant-items
invariant-items l = record {
  within : l.at ≤ length l.items;
  same : (q : Bor (List ℕ)) → contains text_eq l.seen q ≡ list_any (has_name item_name q.now) (entries (drop l.at l.items));
  kept : reverse (entries l.kept.items) ≡ last_of_each item_name (entries (drop l.at l.items));
}
