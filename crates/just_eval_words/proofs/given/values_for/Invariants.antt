-- The values so far and those that are left are all.
use Rattle.std.proofs.Common.{◌≡◌, ◌++◌, drop}
use Rattle.just_eval_words.specs.Tests.{values_for}
use Rattle.just_eval_words.proofs.given.values_for.Given as goal

abbrev pub invariant-options : goal.invariant-options
invariant-options l =
    l.values.items ++ values_for l.number (drop l.option-index l.options) ≡ values_for l.number l.options
