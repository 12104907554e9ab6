-- The overrides to come follow those so far, and behind them stands the same.
use Rattle.std.proofs.Common.{◌≡◌, ◌++◌, length}
use Rattle.just_config.specs.Positional.{overrides_in, behind_overrides}
use Rattle.just_config.proofs.positional.Positional.from_values.Given as goal

abbrev pub invariant-words : goal.invariant-words
invariant-words l = record {
  overrides : l.overrides.items ++ overrides_in l.rest ≡ overrides_in l.words;
  behind : behind_overrides l.rest ≡ behind_overrides l.words;
}

abbrev pub decreases-words : goal.decreases-words
decreases-words l = length l.rest
