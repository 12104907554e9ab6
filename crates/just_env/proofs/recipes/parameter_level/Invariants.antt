-- The parameters to come follow those so far.
use Rattle.just_env.proofs.Bound.{IsBoundFrom}
use Rattle.just_env.proofs.recipes.parameter_level.Given as goal

abbrev pub invariant-parameters : goal.invariant-parameters
invariant-parameters l = IsBoundFrom l.parameters l.values l.at l.bindings.items
