-- One entry more.
use Rattle.just_eval_closure.proofs.EntryLists.{one_entered}
use Rattle.just_eval_closure.proofs.index.index_of.Goals as goal

pub entries-preserved : goal.entries-preserved
entries-preserved c =
    one_entered c.args.all.now c.entries.entry-index c.entry-item.result c.entries-test.true c.entry-item.is c.entries.index c.enter.new.self c.in_ok-enter.ensures c.entries.invariant
