-- What stays and what is left have the normal form of the whole.
use Rattle.std.proofs.Common.{◌≡◌, ◌++◌, true}
use Rattle.just_path.specs.Walk.{comps_left, left_bound}
use Rattle.just_path.specs.Clean.{normal_form}
use Rattle.just_path.specs.Reduced.{is_reduced, comps_of}
use Rattle.just_path.proofs.clean.kept_of.Given as goal

abbrev pub invariant-components : goal.invariant-components
invariant-components l = record {
  reduced : is_reduced (comps_of l.kept.items) ≡ true;
  same : normal_form (comps_of l.kept.items ++ comps_left l.left) ≡ normal_form (comps_left l.fn.components);
}

abbrev pub decreases-components : goal.decreases-components
decreases-components l = left_bound l.left
