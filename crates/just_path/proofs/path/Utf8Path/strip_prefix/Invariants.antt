-- The two gave the same components so far, and the slice behind those that are still wanted is the answer.
use Rattle.std.proofs.Common.{◌≡◌, List, ◌++◌, length}
use Rattle.just_path.specs.Path.{text_of}
use Rattle.just_path.specs.Comps.{Comp, comps}
use Rattle.just_path.specs.Walk.{comps_left, left_bound, slice_left}
use Rattle.just_path.specs.Parts.{slice}
use Rattle.just_path.specs.Order.{begins_with}
use Rattle.just_path.proofs.path.Utf8Path.strip_prefix.Given as goal

abbrev pub invariant-components : goal.invariant-components
invariant-components l = record {
  same : begins_with (comps_left l.left) (comps_left l.wanted) ≡ begins_with (comps (text_of l.fn.self)) (comps (text_of l.fn.base));
  slice : slice_left l.left (length (comps_left l.wanted)) 0 ≡ slice (length (comps (text_of l.fn.base))) 0 (text_of l.fn.self);
  taken : (cs : List Comp) × (comps (text_of l.fn.self) ≡ cs ++ comps_left l.left) × (comps (text_of l.fn.base) ≡ cs ++ comps_left l.wanted);
}

abbrev pub decreases-components : goal.decreases-components
decreases-components l = left_bound l.wanted
