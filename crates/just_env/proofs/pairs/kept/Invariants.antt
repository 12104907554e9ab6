-- Those of the pairs so far that are kept.
use Rattle.std.proofs.Common.{◌≡◌}
use Rattle.just_env.specs.Loads.{kept}
use Rattle.just_env.proofs.pairs.kept.Given as goal

abbrev pub invariant-loop-pair : goal.invariant-loop-pair
invariant-loop-pair l = l.found.items ≡ kept l.overrides l.environ.pairs l.yielded
