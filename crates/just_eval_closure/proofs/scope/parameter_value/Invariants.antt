-- The value is among the parameters that are left.
use Rattle.std.proofs.Common.{◌≡◌, drop}
use Rattle.just_eval_closure.specs.Scopes.{parameter_bindings}
use Rattle.just_eval_closure.specs.Scopes.{value_in}
use Rattle.just_eval_closure.proofs.scope.parameter_value.Given as goal

abbrev pub invariant-parameters : goal.invariant-parameters
invariant-parameters l =
    value_in (parameter_bindings (drop l.at l.parameters) (drop l.at l.values)) l.name ≡ value_in (parameter_bindings l.parameters l.values) l.name
