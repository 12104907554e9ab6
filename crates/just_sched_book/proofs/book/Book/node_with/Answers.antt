-- Each node is looked at, and runs with one child.
use Rattle.std.proofs.Common.{length, ap, sym, ◌∙◌, arith, true≢false}
use Rattle.just_sched_history.specs.Moves.{RunsWith}
use Rattle.just_sched_history.proofs.Below.{below_next}
use Rattle.just_sched_book.proofs.Runners.{one_child, stranger}
use Rattle.just_sched_book.proofs.book.Book.node_with.Goals.{in-Some+else-own-child, in_default}
use Rattle.just_sched_book.proofs.book.Book.node_with.Goals as goal

pub loop-node-preserved : goal.loop-node-preserved
loop-node-preserved g c =
    let h = c.args.self.now.history.items in
    below_next (λ m. RunsWith h m c.args.child → ⊥) c.loop-node.node c.loop-node.invariant
    (elim c.match-child_of.branch [
      | in-Some+else-own-child w ↦ λ r. w.if-own-child.false (one_child h c.loop-node.node w.in-Some.own c.args.child w.in-Some.ensures r)
      | in_default w ↦ λ r. absurd (true≢false (sym r.runs ∙ w.in_default.ensures))
    ])

pub returns-clause-none : goal.returns-clause-none
returns-clause-none g c =
    let s = c.args.self.now in
    stranger s.account c.args.child (λ n lt r. c.loop-node.invariant n (omega (arith, lt, c.loop-node-test.false, c.len-node-end.ensures, ap (λ p. length p.nodes) s.plan_named)) r)
