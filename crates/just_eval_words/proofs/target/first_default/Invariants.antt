-- It is among those that are left.
use Rattle.std.proofs.Common.{◌≡◌, drop, find}
use Rattle.just_eval_words.specs.Targets.{is_default}
use Rattle.just_eval_words.proofs.target.first_default.Given as goal

abbrev pub invariant-recipes : goal.invariant-recipes
invariant-recipes l =
    find is_default (drop l.recipe-index l.recipes) ≡ find is_default l.recipes
