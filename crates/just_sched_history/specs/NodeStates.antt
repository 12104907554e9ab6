-- The states of a node that a book tells: each is the first that holds.
use Rattle.std.specs.Prelude.{ℕ, ◌≡◌, true, false, List}
use Rattle.just_sched_history.specs.declared.event.Event.{Event}
use Rattle.just_sched_history.specs.declared.node_state.NodeState.{NodeState}
use Rattle.just_sched_history.specs.declared.node_state.NodeState.TheVariants as state
use Rattle.just_sched_history.specs.declared.plan_node.PlanNode.{PlanNode}
use Rattle.just_sched_history.specs.State.{has_failed, is_over_well, is_open, IsFinished, IsToAsk, IsReady}

-- the node neither failed nor is over well, and it isn't open
pub record IsBefore (h : List Event) (n : ℕ) : Type 0 where
  pub not_failed : has_failed h n ≡ false
  pub not_over : is_over_well h n ≡ false
  pub not_open : is_open h n ≡ false

-- the first state that holds of the node; one that isn't over well isn't finished
abbrev pub IsState : List PlanNode → List ℕ → List Event → ℕ → NodeState → Type 0
IsState nodes invocations h n state.Failed = has_failed h n ≡ true
IsState nodes invocations h n state.Finished = (has_failed h n ≡ false) × IsFinished nodes h n
IsState nodes invocations h n state.Over = (has_failed h n ≡ false) × (IsFinished nodes h n → ⊥) × (is_over_well h n ≡ true)
IsState nodes invocations h n state.Open = (has_failed h n ≡ false) × (is_over_well h n ≡ false) × (is_open h n ≡ true)
IsState nodes invocations h n state.ToAsk = IsBefore h n × IsToAsk nodes invocations h n
IsState nodes invocations h n state.Ready = IsBefore h n × (IsToAsk nodes invocations h n → ⊥) × IsReady nodes invocations h n
IsState nodes invocations h n state.Waiting = IsBefore h n × (IsToAsk nodes invocations h n → ⊥) × (IsReady nodes invocations h n → ⊥)
