-- Items are put in one behind the other, and stay in order.
use Rattle.std.proofs.Common.{ap, sym, ◌∙◌}
use Rattle.std.specs.Vec.Iter.{into_iter_items}
use Rattle.just_path.specs.View.{named}
use Rattle.just_host_files.specs.Items.{put_in}
use Rattle.just_host_files.proofs.Places.{order_put}
use Rattle.just_host_files.proofs.items.in_order.Goals as goal

pub loop-item-preserved : goal.loop-item-preserved
loop-item-preserved c = record {
  can = tt;
  finite = tt;
  order = order_put c.loop-item.sorted.items c.put_item.new.items.items c.in-Some.item.name c.in-Some.item.kind c.loop-item.invariant.order c.in_ok-put_item.ensures;
  items = ap (λ es. put_in es (into_iter_items c.next.new.self)) c.in_ok-put_item.ensures ∙ (sym (ap (λ xs. put_in (named c.loop-item.sorted.items) xs) c.in-Some.ensures.steps.0) ∙ c.loop-item.invariant.items);
}
