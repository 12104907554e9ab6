-- The variables of the assignments so far are taken out.
use Rattle.just_eval.proofs.UnknownVariables.{AreTakenFrom}
use Rattle.just_eval.proofs.overrides.take_out.Given as goal

abbrev pub invariant-assignments : goal.invariant-assignments
invariant-assignments l = AreTakenFrom l.assignments l.path l.initial.left l.one-index l.left
