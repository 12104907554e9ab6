-- The recipes so far, and those that are still to come.
use Rattle.std.proofs.Common.{◌≡◌, ◌++◌, drop}
use Rattle.std.specs.Prelude.{filter_map}
use Rattle.std.specs.List.{enumerate_from}
use Rattle.just_lang_spots.specs.Entries.{entries}
use Rattle.just_print_tree.specs.Kept.{tolds}
use Rattle.just_print_tree.specs.Told.{told_at, told_among}
use Rattle.just_print_tree.proofs.told.told_among.Given as goal

abbrev pub invariant-standing : goal.invariant-standing
invariant-standing l = tolds l.all.items ++ filter_map (told_at l.recipes) (enumerate_from l.at (entries (drop l.at l.standing))) ≡ told_among l.recipes (entries l.standing)
