-- The modules from the last one on were added.
use Rattle.std.proofs.Common.{◌≡◌, ◌≤◌, ◌++◌, drop, length, map, reverse}
use Rattle.just_lang_types.proofs.modules.push_modules.Given as goal

abbrev pub invariant-modules : goal.invariant-modules
invariant-modules l =
    record {
      added : map (λ m. m.now) l.pending.items ≡ map (λ m. m.now) l.initial.pending.items ++ reverse (drop l.left l.modules);
      within : l.left ≤ length l.modules;
    }

abbrev pub decreases-modules : goal.decreases-modules
decreases-modules l = l.left
