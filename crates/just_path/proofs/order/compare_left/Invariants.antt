-- What is left of the two compares as the paths do.
use Rattle.std.proofs.Common.{◌≡◌}
use Rattle.std.specs.Cmp.Lexicographic.{slice_cmp}
use Rattle.just_path.specs.Walk.{comps_left, left_bound}
use Rattle.just_path.specs.Order.{comp_cmp}
use Rattle.just_path.proofs.order.compare_left.Given as goal

abbrev pub invariant-components : goal.invariant-components
invariant-components l = slice_cmp comp_cmp (comps_left l.left) (comps_left l.right) ≡ slice_cmp comp_cmp (comps_left l.fn.a) (comps_left l.fn.b)

abbrev pub decreases-components : goal.decreases-components
decreases-components l = left_bound l.left
