-- The names so far, and those of the items that are left.
use Rattle.std.proofs.Common.{◌≡◌, ◌++◌, map}
use Rattle.std.specs.Vec.Iter.{into_iter_items}
use Rattle.just_host_files.proofs.items.names_of.Given as goal

abbrev pub invariant-loop-item : goal.invariant-loop-item
invariant-loop-item l =
    record {
      can : (goal.iterator-loop-item).can_next l.item-iterator;
      finite : (goal.iterator-loop-item).is_finite l.item-iterator;
      names : l.names.items ++ map (λ i. i.name) (into_iter_items l.item-iterator) ≡ map (λ i. i.name) l.fn.items.items;
    }
