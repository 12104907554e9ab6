-- The bindings to come export behind those so far.
use Rattle.std.proofs.Common.{◌≡◌, ◌++◌, drop}
use Rattle.std.specs.Prelude.{filter_map}
use Rattle.just_env.specs.Changes.{exported, exports}
use Rattle.just_env.proofs.levels.exports.Given as goal

abbrev pub invariant-bindings : goal.invariant-bindings
invariant-bindings l = l.pairs.items ++ filter_map (exported l.all l.level.prelude) (drop l.binding-index l.level.bindings) ≡ exports l.all l.level
