-- The first one is among those that are left.
use Rattle.std.proofs.Common.{◌≡◌, drop}
use Rattle.just_eval_words.specs.Parameters.{numbered_from, has_short}
use Rattle.just_eval_words.proofs.parameter.option_lettered.Given as goal

abbrev pub invariant-parameters : goal.invariant-parameters
invariant-parameters l =
    numbered_from (has_short l.letter) l.number (drop l.number l.parameters) ≡ numbered_from (has_short l.letter) 0 l.parameters
