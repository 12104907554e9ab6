-- The members so far are wanted, and no others were flagged.
use Rattle.std.proofs.Common.{◌≡◌, ℕ, ◌<◌, ◌⊎◌, true}
use Rattle.std.specs.Prelude.{slice_index, Contains, vec_capacity}
use Rattle.just_sched_history.specs.Tables.{flag}
use Rattle.just_sched_history.specs.Led.{IsRaised}
use Rattle.just_sched_history.proofs.spread.want_all.Given as goal

abbrev pub invariant-loop-node : goal.invariant-loop-node
invariant-loop-node l = record {
  flagged : (j : ℕ) → j < l.node-index → flag l.wanted (slice_index l.nodes j) ≡ true;
  only : (k : ℕ) → flag l.wanted k ≡ true → (flag l.initial.wanted k ≡ true) ⊎ Contains l.nodes k;
  raised : IsRaised l.initial.wanted l.wanted l.initial.pending.items l.pending.items;
  capacity : vec_capacity l.pending ≡ vec_capacity l.initial.pending;
}
