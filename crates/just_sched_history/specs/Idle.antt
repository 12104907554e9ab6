-- When a book has nothing to do.
use Rattle.std.specs.Prelude.{ℕ, ◌≡◌, ◌⊎◌, true, false, List, Some}
use Rattle.just_sched_history.specs.declared.event.Event.{Event}
use Rattle.just_sched_history.specs.declared.event.Idle.{Idle}
use Rattle.just_sched_history.specs.declared.event.Idle.TheVariants as idle
use Rattle.just_sched_history.specs.Cached.{class_is_open}
use Rattle.just_sched_history.specs.State.{IsToAsk, IsReady, IsDueNext, has_caught}
use Rattle.just_sched_history.specs.Legal.{Run, open_bodies}

-- some node is ready or to be asked
abbrev pub HasWork : Run → List Event → Type 0
HasWork s h = (n : ℕ) × IsDueNext s.nodes s.invocations h n

-- no node is to be asked
abbrev pub NoneToAsk : Run → List Event → Type 0
NoneToAsk s h = (n : ℕ) → IsToAsk s.nodes s.invocations h n → ⊥

-- each ready node waits for an open body of its class
abbrev pub EachWaits : Run → List Event → Type 0
EachWaits s h = (n : ℕ) → IsReady s.nodes s.invocations h n → class_is_open s.nodes h n ≡ true

-- why nothing can be done, exactly: a caught signal; else no node is ready or to be asked; else none is to be asked and
-- each job is taken; else none is to be asked and each ready node waits for an open body of its class
abbrev pub IsIdle : Run → List Event → Idle → Type 0
IsIdle s h idle.Signal = has_caught h ≡ true
IsIdle s h idle.Nothing = (has_caught h ≡ false) × (HasWork s h → ⊥)
IsIdle s h idle.Jobs = (has_caught h ≡ false) × HasWork s h × NoneToAsk s h × (s.jobs ≡ Some (open_bodies s h))
IsIdle s h idle.Class = (has_caught h ≡ false) × HasWork s h × NoneToAsk s h × (s.jobs ≡ Some (open_bodies s h) → ⊥) × EachWaits s h

-- the node is ready, there is a job for it, and no open body is of its class
pub record MayTake (s : Run) (h : List Event) (n : ℕ) : Type 0 where
  pub ready : IsReady s.nodes s.invocations h n
  pub job : s.jobs ≡ Some (open_bodies s h) → ⊥
  pub apart : class_is_open s.nodes h n ≡ false

-- a node is to be asked, or one may take a job
abbrev pub CanMove : Run → List Event → Type 0
CanMove s h = (has_caught h ≡ false) × ((n : ℕ) × (IsToAsk s.nodes s.invocations h n ⊎ MayTake s h n))
