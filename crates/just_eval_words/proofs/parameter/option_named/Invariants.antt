-- The first one is among those that are left.
use Rattle.std.proofs.Common.{◌≡◌, drop}
use Rattle.just_eval_words.specs.Parameters.{numbered_from, has_long}
use Rattle.just_eval_words.proofs.parameter.option_named.Given as goal

abbrev pub invariant-parameters : goal.invariant-parameters
invariant-parameters l =
    numbered_from (has_long l.name) l.number (drop l.number l.parameters) ≡ numbered_from (has_long l.name) 0 l.parameters
