-- The names so far, and those that are still to come.
use Rattle.std.proofs.Common.{◌≡◌, ◌++◌, map, drop}
use Rattle.just_lang_spots.specs.Repeated.{named}
use Rattle.just_lang_rules.specs.AttributeSpots.{arg_pair}
use Rattle.just_lang_rules.proofs.duplicate_attributes.borrowed.Given as goal

abbrev pub invariant-names : goal.invariant-names
invariant-names l = map named l.found.items ++ map arg_pair (drop l.name-index l.names) ≡ map arg_pair l.names
