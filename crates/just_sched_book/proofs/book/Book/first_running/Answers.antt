-- A node runs, so it is found, and none before it runs.
use Rattle.std.proofs.Common.{◌≡◌, length, false, ap, arith}
use Rattle.just_sched_history.specs.State.{is_running}
use Rattle.just_sched_history.proofs.Below.{below_next}
use Rattle.just_sched_book.proofs.Runners.{some_runs}
use Rattle.just_sched_book.proofs.book.Book.first_running.Goals as goal

pub loop-node-preserved : goal.loop-node-preserved
loop-node-preserved g c = below_next (λ m. is_running c.args.self.now.history.items m ≡ false) c.loop-node.node c.loop-node.invariant c.in_default.ensures

pub unreachable-requires : goal.unreachable-requires
unreachable-requires g c =
    let s = c.args.self.now in
    some_runs s.account c.requires (λ n lt. c.loop-node.invariant n (omega (arith, lt, c.loop-node-test.false, c.len-node-end.ensures, ap (λ p. length p.nodes) s.plan_named)))
