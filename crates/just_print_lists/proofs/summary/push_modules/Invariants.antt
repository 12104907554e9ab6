-- The modules from the last one on were added.
use Rattle.std.proofs.Common.{◌≡◌, ◌≤◌, ◌++◌, drop, length, map, reverse}
use Rattle.just_print_lists.proofs.summary.push_modules.Given as goal

abbrev pub invariant-modules : goal.invariant-modules
invariant-modules l =
    record {
      added : map (λ m. m.now) l.pending.items ≡ map (λ m. m.now) l.initial.pending.items ++ reverse (map (λ m. m.now) (drop l.left l.modules));
      within : l.left ≤ length l.modules;
    }

abbrev pub decreases-modules : goal.decreases-modules
decreases-modules l = l.left
