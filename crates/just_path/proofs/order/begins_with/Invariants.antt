-- What is left of the two answers as the paths do.
use Rattle.std.proofs.Common.{◌≡◌}
use Rattle.just_path.specs.Comps.{comps}
use Rattle.just_path.specs.Walk.{comps_left, left_bound}
use Rattle.just_path.specs.Order.{begins_with}
use Rattle.just_path.proofs.order.begins_with.Given as goal

abbrev pub invariant-components : goal.invariant-components
invariant-components l = begins_with (comps_left l.left) (comps_left l.wanted) ≡ begins_with (comps l.a) (comps l.b)

abbrev pub decreases-components : goal.decreases-components
decreases-components l = left_bound l.wanted
