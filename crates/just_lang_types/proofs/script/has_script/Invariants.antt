-- None of the attributes so far is the one.
use Rattle.std.proofs.Common.{◌≡◌, drop}
use Rattle.just_lang_types.specs.Attributes.{has_script}
use Rattle.just_lang_types.proofs.script.has_script.Given as goal

abbrev pub invariant-attributes : goal.invariant-attributes
invariant-attributes l = has_script (drop l.attribute-index l.attributes) ≡ has_script l.attributes
