-- The value is among the bindings that are left.
use Rattle.std.proofs.Common.{◌≡◌, drop}
use Rattle.just_eval_closure.specs.Scopes.{value_in}
use Rattle.just_eval_closure.proofs.scope.binding_value.Given as goal

abbrev pub invariant-bindings : goal.invariant-bindings
invariant-bindings l = value_in (drop l.binding-index l.bindings) l.name ≡ value_in l.bindings l.name
