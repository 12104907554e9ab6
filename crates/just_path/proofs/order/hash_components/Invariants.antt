-- What is left still writes what the path does.
use Rattle.std.proofs.Common.{◌≡◌, fold}
use Rattle.std.specs.List.{flat_map}
use Rattle.just_path.specs.Walk.{comps_left, left_bound}
use Rattle.just_path.specs.Order.{comp_hash, path_hash}
use Rattle.just_path.proofs.order.hash_components.Given as goal

abbrev pub invariant-components : goal.invariant-components
invariant-components g l = fold g.H.Hasher.write l.state (flat_map comp_hash (comps_left l.left)) ≡ fold g.H.Hasher.write l.initial.state (path_hash l.text)

abbrev pub decreases-components : goal.decreases-components
decreases-components g l = left_bound l.left
