-- A parameter of another name.
use Rattle.std.proofs.Common.{rules, ◌≡◌, ◌<◌, false, length, get_or, bytes_eq, ◌∙◌}
use Rattle.just_eval_closure.proofs.Bindings.{parameter_other}
use Rattle.just_eval_closure.proofs.scope.parameter_value.Goals as goal

pub parameters-preserved : goal.parameters-preserved
parameters-preserved c =
    let p = c.index-parameters-at.result in
    let lt : c.parameters.at < length c.args.parameters.now = search rules in
    let within : c.parameters.at < length c.args.values.now = search rules in
    let is : p ≡ get_or c.args.parameters.now c.parameters.at p = search rules in
    let other : bytes_eq p.name c.args.name.now ≡ false = search rules in
    parameter_other c.args.parameters.now c.args.values.now c.parameters.at p c.args.name.now lt within is other ∙ c.parameters.invariant
