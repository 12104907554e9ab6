-- The values of those to come follow the values so far.
use Rattle.std.proofs.Common.{◌≡◌, ◌++◌, drop}
use Rattle.just_config_words.specs.Occurrences.{values_in}
use Rattle.just_config_words.proofs.occurrence.values_in.Given as goal

abbrev pub invariant-occurrences : goal.invariant-occurrences
invariant-occurrences l = l.values.items ++ values_in l.name (drop l.occurrence-index l.occurrences) ≡ values_in l.name l.occurrences
