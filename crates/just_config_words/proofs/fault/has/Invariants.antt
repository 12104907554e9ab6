-- None so far is what the test says.
use Rattle.std.proofs.Common.{◌≡◌, drop}
use Rattle.std.specs.List.{list_any}
use Rattle.just_config_words.specs.Faults.{test_of}
use Rattle.just_config_words.proofs.fault.has.Given as goal

abbrev pub invariant-parsed : goal.invariant-parsed
invariant-parsed l = list_any (test_of l.test) (drop l.one-index l.parsed) ≡ list_any (test_of l.test) l.parsed
