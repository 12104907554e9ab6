-- The values so far and those that are left are all.
use Rattle.std.proofs.Common.{◌≡◌, drop}
use Rattle.just_eval_closure.specs.Hashes.{with_values}
use Rattle.just_eval_closure.proofs.hash.with_values.Given as goal

abbrev pub invariant-values : goal.invariant-values
invariant-values l = with_values l.hashed (drop l.value-index l.values) ≡ with_values l.hash l.values
