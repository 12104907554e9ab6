-- The items so far, and those that are still to come.
use Rattle.std.proofs.Common.{◌≡◌, ◌++◌, drop, map}
use Rattle.std.specs.Prelude.{slice_get}
use Rattle.std.specs.List.{flat_map}
use Rattle.just_print_lists.specs.Order.{only_some}
use Rattle.just_print_lists.proofs.order.items_at.Given as goal

abbrev pub invariant-keys : goal.invariant-keys
invariant-keys g l =
    map (λ it. it.now) l.found.items ++ flat_map (λ k. only_some (slice_get l.items k.1)) (drop l.key-index l.keys) ≡ flat_map (λ k. only_some (slice_get l.items k.1)) l.keys
