-- No item so far has a left-out name.
use Rattle.std.proofs.Common.{◌≡◌, drop}
use Rattle.just_lang_syntax.specs.File.{first_left_out}
use Rattle.just_lang_syntax.proofs.left_out.first_left_out.Given as goal

abbrev pub invariant-items : goal.invariant-items
invariant-items l = first_left_out (drop l.item-index l.items) ≡ first_left_out l.items
