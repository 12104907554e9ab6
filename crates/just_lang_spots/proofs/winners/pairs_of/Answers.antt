-- One more item has its file and name in the set.
use Rattle.just_lang_spots.proofs.Tables.{pairs_insert}
use Rattle.just_lang_spots.proofs.winners.pairs_of.Goals as goal

pub items-preserved : goal.items-preserved
items-preserved c = λ file q.
    pairs_insert c.args.items.now c.items.one-index c.one-item.result file q c.item_name.result c.items.set c.insert.new.self c.items-test.true c.one-item.is
    c.item_name.ensures c.in_ok-insert.ensures.updates (c.items.invariant file q)
