-- No node so far runs with the child.
use Rattle.std.proofs.Common.{ℕ, ◌<◌}
use Rattle.just_sched_history.specs.Moves.{RunsWith}
use Rattle.just_sched_book.proofs.book.Book.node_with.Given as goal

abbrev pub invariant-loop-node : goal.invariant-loop-node
invariant-loop-node g l = (m : ℕ) → m < l.node → RunsWith l.fn.self.history.items m l.fn.child → ⊥
