-- They are among those that are left.
use Rattle.std.proofs.Common.{◌≡◌, drop}
use Rattle.just_eval_closure.specs.Scopes.{pairs_for}
use Rattle.just_cli_children.proofs.environment.pairs_for.Given as goal

abbrev pub invariant-modules : goal.invariant-modules
invariant-modules l = pairs_for (drop l.one-index l.dotenv) l.path ≡ pairs_for l.dotenv l.path
