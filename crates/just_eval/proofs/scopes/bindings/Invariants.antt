-- The variables to come follow those so far.
use Rattle.std.proofs.Common.{◌≡◌}
use Rattle.just_eval_closure.proofs.Each.{behind}
use Rattle.just_eval.specs.Evaluations.{bindings_told}
use Rattle.just_eval.specs.Partial.{outcomes_there}
use Rattle.just_eval.proofs.Told.{told_from}
use Rattle.just_eval.proofs.scopes.bindings.Given as goal

abbrev pub invariant-assignments : goal.invariant-assignments
invariant-assignments l = behind l.bindings.items (told_from l.assignments l.outcomes l.at) ≡ bindings_told l.assignments (outcomes_there l.outcomes)
