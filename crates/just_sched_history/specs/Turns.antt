-- How a node stands for the next move of a book, and what that move is.
use Rattle.std.specs.Prelude.{ℕ, ◌≡◌, ◌<◌, true, false, Bool, List, length}
use Rattle.just_sched_history.specs.declared.event.Event.{Event}
use Rattle.just_sched_history.specs.declared.plan_node.PlanNode.{PlanNode}
use Rattle.just_sched_history.specs.declared.turn.Stand.{Stand}
use Rattle.just_sched_history.specs.declared.turn.Stand.TheVariants as stand
use Rattle.just_sched_history.specs.declared.turn.Turn.{Turn}
use Rattle.just_sched_history.specs.declared.turn.Turn.TheVariants as turn
use Rattle.just_sched_history.specs.Cached.{class_is_open}
use Rattle.just_sched_history.specs.State.{IsToAsk, IsReady, IsDueNext}

-- it is ready, and no open body is of its class
pub record IsFree (nodes : List PlanNode) (invocations : List ℕ) (h : List Event) (n : ℕ) : Type 0 where
  pub ready : IsReady nodes invocations h n
  pub apart : class_is_open nodes h n ≡ false

-- it is not to be asked, and where it is ready, it waits
pub record OnlyWaits (nodes : List PlanNode) (invocations : List ℕ) (h : List Event) (n : ℕ) : Type 0 where
  pub not_to_ask : IsToAsk nodes invocations h n → ⊥
  pub waits : IsReady nodes invocations h n → class_is_open nodes h n ≡ true

-- how the node stands
abbrev pub Stands : List PlanNode → List ℕ → List Event → ℕ → Stand → Type 0
Stands nodes invocations h n stand.ToAsk = IsToAsk nodes invocations h n
Stands nodes invocations h n stand.Free = IsFree nodes invocations h n
Stands nodes invocations h n stand.Waits = IsReady nodes invocations h n × OnlyWaits nodes invocations h n
Stands nodes invocations h n stand.Idle = IsDueNext nodes invocations h n → ⊥

-- of the nodes before a place none is to be asked, and each ready one waits; whether one does
pub record OnlyWaitBefore (nodes : List PlanNode) (invocations : List ℕ) (h : List Event) (place : ℕ) (some : Bool) : Type 0 where
  pub each : (m : ℕ) → m < place → OnlyWaits nodes invocations h m
  pub one : some ≡ true → (m : ℕ) × (m < place) × IsReady nodes invocations h m
  pub none : some ≡ false → (m : ℕ) → m < place → IsReady nodes invocations h m → ⊥

-- the next move by the nodes of a plan; before the node of it none is to be asked, and each ready one waits
abbrev pub IsTurn : List PlanNode → List ℕ → List Event → Turn → Type 0
IsTurn nodes invocations h (turn.Ask n) = (n < length nodes) × IsToAsk nodes invocations h n × ((m : ℕ) → m < n → OnlyWaits nodes invocations h m)
IsTurn nodes invocations h (turn.Take n) = (n < length nodes) × IsFree nodes invocations h n × ((m : ℕ) → m < n → OnlyWaits nodes invocations h m)
IsTurn nodes invocations h turn.Wait = ((m : ℕ) × (m < length nodes) × IsReady nodes invocations h m) × ((m : ℕ) → m < length nodes → OnlyWaits nodes invocations h m)
IsTurn nodes invocations h turn.Nothing = (m : ℕ) → m < length nodes → IsDueNext nodes invocations h m → ⊥
