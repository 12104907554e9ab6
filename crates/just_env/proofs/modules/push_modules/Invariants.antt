-- The modules from the last one on were put on the stack.
use Rattle.std.proofs.Common.{◌≡◌, ◌≤◌, ◌++◌, drop, length, reverse}
use Rattle.just_env.specs.Loads.{following}
use Rattle.just_env.specs.Turns.{seen}
use Rattle.just_env.proofs.modules.push_modules.Given as goal

abbrev pub invariant-modules : goal.invariant-modules
invariant-modules l =
    record {
      added : seen l.pending.items ≡ seen l.fn.pending.items ++ reverse (following l.before (drop l.left l.modules));
      within : l.left ≤ length l.modules;
    }

abbrev pub decreases-modules : goal.decreases-modules
decreases-modules l = l.left
