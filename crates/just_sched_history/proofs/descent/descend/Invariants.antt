-- What is known of the flags, of the places and of the list as pending nodes are taken from it.
use Rattle.std.proofs.Common.{◌≡◌, ◌+◌, ℕ, ◌≤◌, Bool, true, length}
use Rattle.std.specs.Prelude.{vec_capacity}
use Rattle.just_sched_history.specs.Nodes.{parallel_at, priors_at}
use Rattle.just_sched_history.specs.Tables.{flag}
use Rattle.just_sched_history.specs.Covered.{AreCovered}
use Rattle.just_sched_history.specs.Led.{down_count, ArePriorsLed, AreUp, AreBefore, KeepsWanted}
use Rattle.just_sched_history.proofs.descent.descend.Given as goal

abbrev pub invariant-loop-next : goal.invariant-loop-next
invariant-loop-next l = record {
  sized : length l.wanted ≡ length l.plan.nodes;
  places : length l.places ≡ length l.plan.nodes;
  listed : AreUp l.wanted l.pending.items;
  before : AreBefore (priors_at l.plan.nodes) l.finished l.wanted l.places;
  room : length l.pending.items + down_count l.wanted ≤ vec_capacity l.pending;
  led : ArePriorsLed (parallel_at l.plan.nodes) (priors_at l.plan.nodes) l.finished l.confirmed l.wanted l.pending.items;
  keeps : (k : ℕ) → flag l.initial.wanted k ≡ true → flag l.wanted k ≡ true;
  wanted : KeepsWanted l.plan.nodes l.plan.invocations l.finished l.confirmed l.initial.wanted l.wanted;
  due : l.due.size ≡ length l.plan.nodes;
  covered : (gone : ℕ → Bool) → AreCovered l.plan.nodes gone l.initial.due.flags.items l.finished l.confirmed l.initial.wanted l.initial.pending.items → AreCovered l.plan.nodes gone l.due.flags.items l.finished l.confirmed l.wanted l.pending.items;
  capacity : vec_capacity l.pending ≡ vec_capacity l.initial.pending;
}

abbrev pub decreases-loop-next : goal.decreases-loop-next
decreases-loop-next l = length l.pending.items + down_count l.wanted
