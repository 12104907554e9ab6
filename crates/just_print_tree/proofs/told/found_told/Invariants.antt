-- None of the recipes of the modules so far has that path.
use Rattle.std.proofs.Common.{◌≡◌, drop, map}
use Rattle.just_print_tree.specs.Kept.{tolds}
use Rattle.just_print_tree.specs.Told.{found_told}
use Rattle.just_print_tree.proofs.told.found_told.Given as goal

abbrev pub invariant-modules : goal.invariant-modules
invariant-modules l = found_told (map tolds (drop l.recipes-index l.all)) l.path ≡ found_told (map tolds l.all) l.path
