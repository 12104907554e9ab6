-- The scopes of the modules to come follow those so far, and no others do.
use Rattle.just_eval.proofs.Told.{AreEvaluated}
use Rattle.just_eval.proofs.Only.{AreInFront}
use Rattle.just_eval.proofs.scopes.scopes.Given as goal

abbrev pub invariant-modules : goal.invariant-modules
invariant-modules l = record {
  evaluated : AreEvaluated l.dotenv l.environ.pairs l.overrides l.modules l.module-index l.scopes.items;
  front : AreInFront l.dotenv l.environ.pairs l.overrides l.modules l.module-index l.scopes.items;
}
