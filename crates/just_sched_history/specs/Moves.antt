-- What the calls of a book leave: the events of one node, and what became of that node.
use Rattle.std.specs.Prelude.{ℕ, ◌<◌, ◌≡◌, ◌||◌, ◌⊎◌, Bool, true, false, List, [], ◌∷◌, ◌++◌, Some, is_none}
use Rattle.std.specs.List.{AllPass}
use Rattle.just_sched_history.specs.declared.event.Event.{Event}
use Rattle.just_sched_history.specs.declared.event.Event.TheVariants as event
use Rattle.just_sched_history.specs.declared.event.Outcome.TheVariants as outcome
use Rattle.just_sched_history.specs.declared.event.Reason.TheVariants as reason
use Rattle.just_sched_history.specs.Idle.{MayTake}
use Rattle.just_sched_history.specs.Legal.{Run}
use Rattle.just_sched_history.specs.State.{node_of, is_of, is_open, is_running, has_taken, is_asked, is_done, last_start, IsToAsk}

-- the event is one of the node, or a caught signal
abbrev pub concerns : ℕ → Event → Bool
concerns n e = is_none (node_of e) || is_of n e

-- the history gained events, each of which passes the test
pub record GrowsWhere (passes : Event → Bool) (old new : List Event) : Type 0 where
  pub more : List Event
  pub grew : new ≡ old ++ more
  pub own : AllPass passes more

-- each is one of that node, so no signal was caught
abbrev pub GrowsBy : List Event → List Event → ℕ → Type 0
GrowsBy old new n = GrowsWhere (is_of n) old new

-- each is one of that node, or a caught signal
abbrev pub GrowsOrCatches : List Event → List Event → ℕ → Type 0
GrowsOrCatches old new n = GrowsWhere (concerns n) old new

-- the events of an answer: where a node is answered by a no, it is done by that
abbrev pub answer_events : ℕ → Bool → List Event
answer_events n true = event.Asked n true ∷ []
answer_events n false = event.Asked n false ∷ event.Done n (outcome.Failed reason.NotConfirmed) ∷ []

-- One move of `next`: a node that might take a job took it, or a node that was to be asked was asked, or is done since asking it was
-- refused; it had taken no job before. The history gained events of that node alone, or a caught signal. No node of lesser
-- number was to be asked, and none might take a job.
pub record IsMove (s : Run) (old new : List Event) (n : ℕ) : Type 0 where
  pub moved : (MayTake s old n × (has_taken new n ≡ true)) ⊎ (IsToAsk s.nodes s.invocations old n × ((is_asked new n || is_done new n) ≡ true))
  pub not_taken : has_taken old n ≡ false
  pub least_to_ask : (m : ℕ) → m < n → IsToAsk s.nodes s.invocations old m → ⊥
  pub least_to_take : (m : ℕ) → m < n → MayTake s old m → ⊥
  pub grows : GrowsOrCatches old new n

-- the node's body is open, and runs with that child
pub record RunsWith (h : List Event) (n child : ℕ) : Type 0 where
  pub opened : is_open h n ≡ true
  pub runs : is_running h n ≡ true
  pub place : ℕ
  pub started : last_start h n ≡ Some (place, child)

-- the node's body gave its job back, and nothing of it runs
pub record Rests (h : List Event) (n : ℕ) : Type 0 where
  pub closed : is_open h n ≡ false
  pub still : is_running h n ≡ false
