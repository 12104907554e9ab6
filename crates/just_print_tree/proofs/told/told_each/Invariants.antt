-- The recipes of the modules so far, and those of the modules that are still to come.
use Rattle.std.proofs.Common.{◌≡◌, ◌++◌, drop, map}
use Rattle.just_lang_spots.specs.Winners.{wins_in}
use Rattle.just_print_tree.specs.Kept.{tolds}
use Rattle.just_print_tree.specs.Told.{told_each}
use Rattle.just_print_tree.proofs.told.told_each.Given as goal

abbrev pub invariant-modules : goal.invariant-modules
invariant-modules l =
    map tolds l.all.items ++ told_each (wins_in l.winners) l.files (drop l.at l.modules) (drop l.at (map (λ j. j.now) l.justfiles))
    ≡ told_each (wins_in l.winners) l.files l.modules (map (λ j. j.now) l.justfiles)
