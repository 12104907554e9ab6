-- The values so far are the same.
use Rattle.std.proofs.Common.{◌≡◌, drop}
use Rattle.std.specs.Cmp.Lexicographic.{pointwise}
use Rattle.just_lang_types.specs.Keys.{same_value}
use Rattle.just_lang_types.proofs.same.same_values.Given as goal

abbrev pub invariant-loop-at : goal.invariant-loop-at
invariant-loop-at l = pointwise same_value (drop l.at l.some) (drop l.at l.others) ≡ pointwise same_value l.some l.others
