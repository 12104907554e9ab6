-- The options of the word so far are added.
use Rattle.std.proofs.Common.{◌≡◌, ◌++◌}
use Rattle.just_config_words.specs.Faults.{occurrences}
use Rattle.just_config_words.proofs.front.add_occurrences.Given as goal

abbrev pub invariant-parsed : goal.invariant-parsed
invariant-parsed l = l.given.items ≡ l.fn.given.items ++ occurrences l.word l.yielded
