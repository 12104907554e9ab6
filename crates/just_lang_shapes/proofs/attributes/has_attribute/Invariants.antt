-- None of the attributes so far has the name.
use Rattle.std.proofs.Common.{◌≡◌, drop}
use Rattle.just_lang_shapes.specs.Attributes.{has_attribute}
use Rattle.just_lang_shapes.proofs.attributes.has_attribute.Given as goal

abbrev pub invariant-attributes : goal.invariant-attributes
invariant-attributes l = has_attribute l.name (drop l.attribute-index l.attributes) ≡ has_attribute l.name l.attributes
