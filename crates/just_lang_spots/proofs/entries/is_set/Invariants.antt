-- No item so far sets the flag.
use Rattle.std.proofs.Common.{◌≡◌, drop}
use Rattle.just_lang_spots.specs.Entries.{entries}
use Rattle.just_lang_spots.specs.Items.{is_set}
use Rattle.just_lang_spots.proofs.entries.is_set.Given as goal

abbrev pub invariant-items : goal.invariant-items
invariant-items l = is_set l.flag (entries (drop l.one-index l.items)) ≡ is_set l.flag (entries l.items)
