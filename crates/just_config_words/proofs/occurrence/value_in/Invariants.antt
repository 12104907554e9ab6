-- None so far is of the option.
use Rattle.std.proofs.Common.{◌≡◌, drop}
use Rattle.just_config_words.specs.Occurrences.{value_in}
use Rattle.just_config_words.proofs.occurrence.value_in.Given as goal

abbrev pub invariant-occurrences : goal.invariant-occurrences
invariant-occurrences l = value_in l.name (drop l.occurrence-index l.occurrences) ≡ value_in l.name l.occurrences
