-- The priors of the nodes so far are led, where those are wanted and not pending.
use Rattle.std.proofs.Common.{◌≡◌, ℕ, ◌<◌, ◌⊎◌, true, false, length}
use Rattle.std.specs.Prelude.{Contains, slice_index, vec_capacity}
use Rattle.just_sched_history.specs.Nodes.{priors_at}
use Rattle.just_sched_history.specs.Tables.{flag}
use Rattle.just_sched_history.specs.Covered.{IsCovered}
use Rattle.just_sched_history.specs.Led.{IsRaised, IsLed, AreUp, AreBefore, KeepsWanted}
use Rattle.just_sched_history.proofs.descent.spread.Given as goal

abbrev pub invariant-loop-node : goal.invariant-loop-node
invariant-loop-node l = record {
  sized : length l.wanted ≡ length l.plan.nodes;
  places : length l.places ≡ length l.plan.nodes;
  listed : AreUp l.wanted l.pending.items;
  before : AreBefore (priors_at l.plan.nodes) l.finished l.wanted l.places;
  led : (j : ℕ) → j < l.node-index → flag l.wanted (slice_index l.nodes j) ≡ true → flag l.confirmed (slice_index l.nodes j) ≡ true → Contains l.pending.items (slice_index l.nodes j) ⊎ IsLed l.finished l.wanted false (priors_at l.plan.nodes (slice_index l.nodes j));
  raised : IsRaised l.initial.wanted l.wanted l.initial.pending.items l.pending.items;
  wanted : KeepsWanted l.plan.nodes l.plan.invocations l.finished l.confirmed l.initial.wanted l.wanted;
  due : l.due.size ≡ length l.plan.nodes;
  kept : (k : ℕ) → flag l.initial.due.flags.items k ≡ true → flag l.due.flags.items k ≡ true;
  covered : (j : ℕ) → j < l.node-index → flag l.wanted (slice_index l.nodes j) ≡ true → Contains l.pending.items (slice_index l.nodes j) ⊎ IsCovered l.plan.nodes l.due.flags.items l.finished l.confirmed (slice_index l.nodes j);
  capacity : vec_capacity l.pending ≡ vec_capacity l.initial.pending;
}
