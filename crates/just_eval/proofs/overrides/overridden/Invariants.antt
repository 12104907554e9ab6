-- The variables of the overrides so far are in the set.
use Rattle.just_eval.proofs.UnknownVariables.{AreOverriddenFrom}
use Rattle.just_eval.proofs.overrides.overridden.Given as goal

abbrev pub invariant-overrides : goal.invariant-overrides
invariant-overrides l = AreOverriddenFrom l.overrides l.one-index l.set
