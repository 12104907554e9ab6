-- No node so far runs.
use Rattle.std.proofs.Common.{◌≡◌, ℕ, ◌<◌, false}
use Rattle.just_sched_history.specs.State.{is_running}
use Rattle.just_sched_book.proofs.book.Book.first_running.Given as goal

abbrev pub invariant-loop-node : goal.invariant-loop-node
invariant-loop-node g l = (m : ℕ) → m < l.node → is_running l.self.history.items m ≡ false
