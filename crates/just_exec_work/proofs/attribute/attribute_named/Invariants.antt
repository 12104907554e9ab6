-- None of those so far has the name.
use Rattle.std.proofs.Common.{◌≡◌, drop}
use Rattle.just_exec_work.specs.Attributes.{attribute_named}
use Rattle.just_exec_work.proofs.attribute.attribute_named.Given as goal

abbrev pub invariant-attributes : goal.invariant-attributes
invariant-attributes l = attribute_named (drop l.attribute-index l.attributes) l.name ≡ attribute_named l.attributes l.name
