-- What is left follows what was added.
use Rattle.std.proofs.Common.{◌≡◌, ◌++◌, drop, map}
use Rattle.just_cli_texts.specs.Evaluated.{as_evaluated}
use Rattle.just_cli_texts.proofs.values.push_bindings.Given as goal

abbrev pub invariant-bindings : goal.invariant-bindings
invariant-bindings l = l.variables.items ++ map as_evaluated (drop l.binding-index l.bindings) ≡ l.initial.variables.items ++ map as_evaluated l.bindings
