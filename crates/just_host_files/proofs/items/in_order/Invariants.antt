-- The items so far are in order, and those that are left make of them what all of them make.
use Rattle.std.proofs.Common.{◌≡◌, []}
use Rattle.std.specs.Vec.Iter.{into_iter_items}
use Rattle.just_path.specs.View.{named, AreInOrder}
use Rattle.just_host_files.specs.Items.{put_in}
use Rattle.just_host_files.proofs.items.in_order.Given as goal

abbrev pub invariant-loop-item : goal.invariant-loop-item
invariant-loop-item l =
    record {
      can : (goal.iterator-loop-item).can_next l.item-iterator;
      finite : (goal.iterator-loop-item).is_finite l.item-iterator;
      order : AreInOrder l.sorted.items;
      items : put_in (named l.sorted.items) (into_iter_items l.item-iterator) ≡ put_in [] l.fn.items.items;
    }
