-- The nodes so far are flagged.
use Rattle.std.proofs.Common.{◌≡◌, ℕ, ◌<◌, get_or, false, true, slice_index}
use Rattle.just_sched_history.proofs.flags.all_flagged.Given as goal

abbrev pub invariant-loop-node : goal.invariant-loop-node
invariant-loop-node l = (j : ℕ) → j < l.node-index → get_or l.flags (slice_index l.nodes j) false ≡ true
