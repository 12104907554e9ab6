-- All before the place are finished and wanted, and only those that may come next were flagged.
use Rattle.std.proofs.Common.{◌≡◌, ℕ, ◌⊎◌, true, false}
use Rattle.std.specs.Prelude.{vec_capacity}
use Rattle.just_sched_history.specs.Tables.{flag}
use Rattle.just_sched_history.specs.Led.{IsRaised, IsBefore, MayFollow}
use Rattle.just_sched_history.proofs.spread.lead.Given as goal

abbrev pub invariant-loop-at : goal.invariant-loop-at
invariant-loop-at l = record {
  before : IsBefore l.finished l.wanted l.nodes l.at;
  only : (k : ℕ) → flag l.wanted k ≡ true → (flag l.initial.wanted k ≡ true) ⊎ MayFollow l.finished false l.nodes k;
  raised : IsRaised l.initial.wanted l.wanted l.initial.pending.items l.pending.items;
  capacity : vec_capacity l.pending ≡ vec_capacity l.initial.pending;
}
