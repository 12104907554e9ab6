-- What is kept of a run's progress: which nodes are over well, finished, confirmed and wanted, and how far each list has come.
use Rattle.std.specs.Prelude.{ℕ, ◌+◌, ◌≡◌, ◌<◌, ◌≤◌, true, false, List, [], length, slice_index_or, map, Contains, Option, Some, vec_capacity}
use Rattle.just_sched_history.specs.declared.event.Event.{Event}
use Rattle.just_sched_history.specs.declared.plan_node.PlanNode.{PlanNode}
use Rattle.just_sched_history.specs.declared.progress.Progress.{Progress}
use Rattle.just_sched_history.specs.Nodes.{priors_at, subsequents_at, parallel_at}
use Rattle.just_sched_history.specs.State.{is_over_well}
use Rattle.just_sched_history.specs.Tables.{flag, FlagsAre}
use Rattle.just_sched_history.specs.Led.{down_count, IsBefore, IsLed, ArePriorsLed, AreUp, AreBefore, AllFinished, AllConfirmed, AllWanted}

-- the nodes of whose priors one has that number
abbrev pub dependents_at : Progress → ℕ → List ℕ
dependents_at p n = slice_index_or (map (λ v. v.items) p.dependents.items) n []

-- the places are those up to which all are finished, and each dependent is listed
pub record IsPlaced (nodes : List PlanNode) (invocations : List ℕ) (p : Progress) : Type 0 where
  pub invoked : IsBefore p.finished.items p.wanted.items invocations p.invocations
  pub priors : AreBefore (priors_at nodes) p.finished.items p.wanted.items p.priors.items
  pub subsequents : AreBefore (subsequents_at nodes) p.finished.items p.wanted.items p.subsequents.items
  pub listed : AreUp p.wanted.items p.pending.items
  pub room : length p.pending.items + down_count p.wanted.items ≤ vec_capacity p.pending
  pub dependents : (m q : ℕ) → Contains (priors_at nodes m) q → Contains (dependents_at p q) m
  pub inside : (m q : ℕ) → Contains (dependents_at p q) m → m < length nodes

-- Each node that is to be flagged is flagged, but by one node's subsequents, if one is told, and by the pending nodes.
pub record IsClosedBut (nodes : List PlanNode) (invocations : List ℕ) (p : Progress) (next : Option ℕ) : Type 0 where
  pub finished : (k : ℕ) → k < length nodes → (next ≡ Some k → ⊥) → flag p.over.items k ≡ true → ((q : ℕ) → Contains (subsequents_at nodes k) q → flag p.finished.items q ≡ true) → flag p.finished.items k ≡ true
  pub invoked : IsLed p.finished.items p.wanted.items false invocations
  pub subsequents : (m : ℕ) → (next ≡ Some m → ⊥) → flag p.over.items m ≡ true → IsLed p.finished.items p.wanted.items (parallel_at nodes m) (subsequents_at nodes m)
  pub over : (m : ℕ) → next ≡ Some m → flag p.over.items m ≡ true
  pub together : (m : ℕ) → next ≡ Some m → parallel_at nodes m ≡ true → IsLed p.finished.items p.wanted.items true (subsequents_at nodes m)
  pub priors : ArePriorsLed (parallel_at nodes) (priors_at nodes) p.finished.items p.confirmed.items p.wanted.items p.pending.items

-- the flags say nothing of the nodes that the history doesn't
pub record IsTold (nodes : List PlanNode) (invocations : List ℕ) (h : List Event) (p : Progress) : Type 0 where
  pub over : FlagsAre p.over.items (is_over_well h)
  pub finished : AllFinished nodes h p.finished.items
  pub confirmed : AllConfirmed nodes h p.confirmed.items
  pub wanted : AllWanted nodes invocations h p.wanted.items
