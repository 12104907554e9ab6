-- One more item has its place in the table.
use Rattle.just_lang_spots.proofs.Tables.{index_insert}
use Rattle.just_lang_spots.proofs.index.index_of.Goals as goal

pub items-preserved : goal.items-preserved
items-preserved c = λ q.
    index_insert c.args.items.now c.items.at c.index-items-at.result q c.item_name.result c.items.places c.insert.new.self c.items-test.true c.index-items-at.is
    c.item_name.ensures c.in_ok-insert.ensures.updates (c.items.invariant q)
