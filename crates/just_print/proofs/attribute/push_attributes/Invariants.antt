-- What is left follows what was added.
use Rattle.std.proofs.Common.{◌≡◌, ◌++◌, drop, string_bytes}
use Rattle.just_print.specs.Printed.{printed_attributes}
use Rattle.just_print.proofs.attribute.push_attributes.Given as goal

abbrev pub invariant-attributes : goal.invariant-attributes
invariant-attributes l = string_bytes l.out ++ printed_attributes (drop l.attribute-index l.attributes) ≡ string_bytes l.initial.out ++ printed_attributes l.attributes
