-- What is left follows what was added.
use Rattle.std.proofs.Common.{◌≡◌, ◌++◌, drop, map}
use Rattle.std.specs.List.{flat_map}
use Rattle.just_cli_texts.specs.Evaluated.{as_evaluated, own_bindings}
use Rattle.just_cli_texts.proofs.values.variables_in.Given as goal

abbrev pub invariant-levels : goal.invariant-levels
invariant-levels l = l.variables.items ++ map as_evaluated (flat_map own_bindings (drop l.level-index l.levels)) ≡ map as_evaluated (flat_map own_bindings l.levels)
