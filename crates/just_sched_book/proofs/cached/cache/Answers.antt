-- The cache that is read is the node's.
use Rattle.std.proofs.Common.{Some, is_some, true≢false, ap, sym, ◌∙◌}
use Rattle.just_sched_history.proofs.WantedLaws.{cache_read}
use Rattle.just_sched_book.proofs.cached.cache.Goals as goal

pub returns : goal.returns
returns c =
    let read = cache_read c.args.plan.now.nodes c.as_slice.result.now c.args.node c.index-as_slice-node.result c.as_slice.ensures c.requires.within in
    sym read ∙ c.in-Some.is ∙ ap (λ t. Some t) (sym c.get.ensures)

pub unreachable-requires : goal.unreachable-requires
unreachable-requires c =
    let read = cache_read c.args.plan.now.nodes c.as_slice.result.now c.args.node c.index-as_slice-node.result c.as_slice.ensures c.requires.within in
    true≢false (sym c.requires.cached ∙ ap is_some (sym read ∙ c.in-None.is))
