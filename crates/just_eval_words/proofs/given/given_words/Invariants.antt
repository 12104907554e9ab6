-- What was given and what the other parameters are given of what is left is what all are.
use Rattle.std.proofs.Common.{◌≡◌, ◌++◌, drop}
use Rattle.just_eval_words.specs.Tests.{given_from}
use Rattle.just_eval_words.proofs.given.given_words.Given as goal

abbrev pub invariant-parameters : goal.invariant-parameters
invariant-parameters l =
    l.given.items ++ given_from l.number (drop l.number l.parameters) l.left l.options ≡ given_from 0 l.parameters l.taken.positional.items l.options
