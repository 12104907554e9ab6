-- What was given and what the other parameters take of what is left is what all take.
use Rattle.std.proofs.Common.{◌≡◌, ◌++◌, drop}
use Rattle.just_eval_closure.specs.Dependencies.{shares}
use Rattle.just_eval_closure.proofs.argument.shares.Given as goal

abbrev pub invariant-parameters : goal.invariant-parameters
invariant-parameters l =
    l.given.items ++ shares (drop l.parameter-index l.parameters) (drop l.at l.arguments) ≡ shares l.parameters l.arguments
