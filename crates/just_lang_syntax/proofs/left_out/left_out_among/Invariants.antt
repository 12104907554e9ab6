-- No attribute so far is left out.
use Rattle.std.proofs.Common.{◌≡◌, drop}
use Rattle.just_lang_syntax.specs.File.{left_out_among}
use Rattle.just_lang_syntax.proofs.left_out.left_out_among.Given as goal

abbrev pub invariant-attributes : goal.invariant-attributes
invariant-attributes l = left_out_among (drop l.attribute-index l.attributes) ≡ left_out_among l.attributes
