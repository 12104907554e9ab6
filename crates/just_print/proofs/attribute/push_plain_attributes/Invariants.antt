-- What is left follows what was added.
use Rattle.std.proofs.Common.{◌≡◌, ◌++◌, drop, map, string_bytes}
use Rattle.just_print.specs.Printed.{printed_attributes}
use Rattle.just_print.specs.Shown.{plain_attribute}
use Rattle.just_print.proofs.attribute.push_plain_attributes.Given as goal

abbrev pub invariant-attributes : goal.invariant-attributes
invariant-attributes l = string_bytes l.out ++ printed_attributes (map plain_attribute (drop l.attribute-index l.attributes)) ≡ string_bytes l.initial.out ++ printed_attributes (map plain_attribute l.attributes)
