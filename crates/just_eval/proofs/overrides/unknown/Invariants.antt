-- The variables of the modules so far are taken out.
use Rattle.just_eval.proofs.UnknownVariables.{AreLeftFrom}
use Rattle.just_eval.proofs.overrides.unknown.Given as goal

abbrev pub invariant-modules : goal.invariant-modules
invariant-modules l = AreLeftFrom l.modules l.overrides l.module-index l.left
