-- The pairs so far stand behind the first ones.
use Rattle.std.proofs.Common.{◌≡◌, ◌++◌}
use Rattle.just_env.proofs.pairs.behind.Given as goal

abbrev pub invariant-loop-pair : goal.invariant-loop-pair
invariant-loop-pair l = l.pairs.items ≡ l.fn.first ++ l.yielded
