-- Which of the wanted nodes stand in the set of those that may be ready or to be asked.
use Rattle.std.specs.Prelude.{ℕ, ◌≡◌, ◌⊎◌, Bool, true, false, List, Contains}
use Rattle.just_sched_history.specs.declared.plan_node.PlanNode.{PlanNode}
use Rattle.just_sched_history.specs.declared.progress.Progress.{Progress}
use Rattle.just_sched_history.specs.Nodes.{priors_at}
use Rattle.just_sched_history.specs.Tables.{flag}

-- by the flags the node is confirmed, and one of its priors isn't finished
pub record IsHeldUp (nodes : List PlanNode) (finished confirmed : List Bool) (n : ℕ) : Type 0 where
  pub sure : flag confirmed n ≡ true
  pub node : ℕ
  pub among : Contains (priors_at nodes n) node
  pub unfinished : flag finished node ≡ false

-- the node stands in the set, or is held up
abbrev pub IsCovered : List PlanNode → List Bool → List Bool → List Bool → ℕ → Type 0
IsCovered nodes due finished confirmed n = (flag due n ≡ true) ⊎ IsHeldUp nodes finished confirmed n

-- each wanted node is covered, but for those that are gone and those that are still to be gone to
abbrev pub AreCovered : List PlanNode → (ℕ → Bool) → List Bool → List Bool → List Bool → List Bool → List ℕ → Type 0
AreCovered nodes gone due finished confirmed wanted pending = (n : ℕ) → flag wanted n ≡ true → gone n ≡ false → Contains pending n ⊎ IsCovered nodes due finished confirmed n

-- the same of what is kept of a run's progress
abbrev pub AreCoveredBy : List PlanNode → (ℕ → Bool) → List Bool → Progress → Type 0
AreCoveredBy nodes gone due p = AreCovered nodes gone due p.finished.items p.confirmed.items p.wanted.items p.pending.items
