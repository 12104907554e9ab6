-- The parts of the values to come follow those so far.
use Rattle.std.proofs.Common.{◌≡◌, ◌++◌, drop}
use Rattle.std.specs.Prelude.{flat_map}
use Rattle.just_config_words.specs.Arguments.{comma}
use Rattle.just_config_words.specs.Cuts.{parts}
use Rattle.just_config_words.proofs.arguments.names.Given as goal

abbrev pub invariant-values : goal.invariant-values
invariant-values l = l.names.items ++ flat_map (parts comma) (drop l.value-index l.value-items) ≡ flat_map (parts comma) l.value-items
