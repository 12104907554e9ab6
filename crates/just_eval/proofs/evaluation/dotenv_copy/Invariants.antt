-- The pairs to come follow those so far.
use Rattle.std.proofs.Common.{◌≡◌, ◌++◌, drop}
use Rattle.just_eval.proofs.evaluation.dotenv_copy.Given as goal

abbrev pub invariant-dotenv : goal.invariant-dotenv
invariant-dotenv l = l.copies.items ++ drop l.one-index l.dotenv ≡ l.dotenv
