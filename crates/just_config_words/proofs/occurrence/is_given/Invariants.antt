-- None so far is of the option.
use Rattle.std.proofs.Common.{◌≡◌, drop}
use Rattle.just_config_words.specs.Occurrences.{is_given}
use Rattle.just_config_words.proofs.occurrence.is_given.Given as goal

abbrev pub invariant-occurrences : goal.invariant-occurrences
invariant-occurrences l = is_given l.name (drop l.occurrence-index l.occurrences) ≡ is_given l.name l.occurrences
