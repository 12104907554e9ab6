-- Whether a node has a cache is told by the plan.
use Rattle.std.proofs.Common.{length, ap, arith, ◌∙◌}
use Rattle.just_sched_history.specs.Cached.{is_cached}
use Rattle.just_sched_book.proofs.Accounts.{node_in}
use Rattle.just_sched_history.proofs.PlanLaws.{cached_read}
use Rattle.just_sched_book.proofs.book.Book.is_cached.Goals as goal

pub bounds-nodes-node : goal.bounds-nodes-node
bounds-nodes-node g c =
    let s = c.args.self.now in
    omega (arith, node_in s.account c.args.node c.requires, ap (λ p. length p.nodes) s.plan_named, ap length c.as_slice-nodes.ensures)

pub returns : goal.returns
returns g c =
    let s = c.args.self.now in
    cached_read s.plan.nodes c.as_slice-nodes.result.now c.args.node c.index-nodes-node.result _ c.as_slice-nodes.ensures (omega (arith, node_in s.account c.args.node c.requires, ap (λ p. length p.nodes) s.plan_named)) c.is_some.ensures
    ∙ ap (λ p. is_cached p.nodes c.args.node) s.plan_named
