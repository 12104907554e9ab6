-- None so far is of the option.
use Rattle.std.proofs.Common.{◌≡◌, length}
use Rattle.just_config_words.specs.Occurrences.{behind_first, is_given}
use Rattle.just_config_words.proofs.occurrence.behind.Given as goal

abbrev pub invariant-rest : goal.invariant-rest
invariant-rest l = (is_given l.name l.rest ≡ is_given l.name l.occurrences) × (behind_first l.name l.rest ≡ behind_first l.name l.occurrences)

abbrev pub decreases-rest : goal.decreases-rest
decreases-rest l = length l.rest
