-- The copies so far are those of the parameters so far.
use Rattle.std.proofs.Common.{◌≡◌, ◌++◌, drop}
use Rattle.just_eval_words.proofs.copy.copy_parameters.Given as goal

abbrev pub invariant-parameters : goal.invariant-parameters
invariant-parameters l = l.copies.items ++ drop l.parameter-index l.parameters ≡ l.parameters
