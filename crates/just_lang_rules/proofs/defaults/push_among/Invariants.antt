-- The places so far, and those that are still to come.
use Rattle.std.proofs.Common.{◌≡◌, ◌++◌, drop}
use Rattle.just_lang_rules.specs.DefaultSpots.{default_attributes}
use Rattle.just_lang_rules.proofs.defaults.push_among.Given as goal

abbrev pub invariant-attributes : goal.invariant-attributes
invariant-attributes l =
    l.spots.items ++ default_attributes l.file (drop l.attribute-index l.attributes) ≡ l.fn.spots.items ++ default_attributes l.file l.attributes
