-- One more key.
use Rattle.just_print_lists.proofs.Sorting.{keys_more}
use Rattle.just_print_lists.specs.Order.{keys_from}
use Rattle.just_print_lists.proofs.order.keys_of.Goals as goal

pub items-preserved : goal.items-preserved
items-preserved g c =
    keys_more (g.T.Named.name) c.args.items.now c.items.place c.index-items-place.result c.items.keys.items c.push.new.self.items (keys_from (g.T.Named.name) 0 c.args.items.now) c.in_ok-key.key
    c.items-test.true c.index-items-place.is c.in_ok-key.ensures c.in_ok-push.ensures.items c.items.invariant
