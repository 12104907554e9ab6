-- The items so far, and those that are still to come.
use Rattle.std.proofs.Common.{◌≡◌, ◌++◌, drop}
use Rattle.std.specs.Prelude.{filter_map}
use Rattle.just_lang_layout.specs.Items.{item_at}
use Rattle.just_lang_spots.specs.Entries.{entries}
use Rattle.just_lang_layout.proofs.items.items_at.Given as goal

abbrev pub invariant-places : goal.invariant-places
invariant-places l =
    entries l.found.items ++ filter_map (item_at l.files) (drop l.place-index l.places) ≡ filter_map (item_at l.files) l.places
