-- So many were taken so far.
use Rattle.std.proofs.Common.{◌-◌, ◌≤◌, reverse}
use Rattle.just_print_tree.specs.Kept.{branches, AreTaken}
use Rattle.just_print_tree.proofs.branch.take_within.Given as goal

abbrev pub invariant-left : goal.invariant-left
invariant-left l =
    record {
      taken : AreTaken l.files (l.count - l.left) (reverse (branches l.fn.outer.items)) (reverse (branches l.outer.items)) l.within.trees.items l.within.spots.items;
      within : l.left ≤ l.count;
    }

abbrev pub decreases-left : goal.decreases-left
decreases-left l = l.left
