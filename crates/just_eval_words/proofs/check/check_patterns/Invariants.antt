-- The first refusal is among those that are left.
use Rattle.std.proofs.Common.{◌≡◌, drop}
use Rattle.just_eval_words.specs.Tests.{first_over, mismatch}
use Rattle.just_eval_words.proofs.check.check_patterns.Given as goal

abbrev pub invariant-parameters : goal.invariant-parameters
invariant-parameters l =
    first_over (mismatch l.recipe) (drop l.at l.recipe.parameters) (drop l.at l.given) ≡ first_over (mismatch l.recipe) l.recipe.parameters l.given
