-- The keys are sorted, and the items are those at their places.
use Rattle.std.proofs.Common.{List, map, slice_get, ap, ◌∙◌}
use Rattle.std.specs.List.{flat_map}
use Rattle.just_print_lists.specs.Order.{only_some}
use Rattle.just_print_lists.proofs.Sorting.{Key, items_by_name}
use Rattle.just_print_lists.proofs.order.by_name.Goals as goal

pub returns : goal.returns
returns g c =
    items_by_name (g.T.Named.name) c.args.items.now c.in_ok-keys.keys.items c.sort.new.self.items (map (λ item. item.now) c.in_ok-found.found.items) c.in_ok-keys.ensures c.in_ok-sort.ensures.permutation c.in_ok-sort.ensures.sorted
    (c.in_ok-found.ensures ∙ ap (λ (ks : List Key). flat_map (λ (k : Key). only_some (slice_get c.args.items.now k.1)) ks) c.as_slice.ensures.value)
