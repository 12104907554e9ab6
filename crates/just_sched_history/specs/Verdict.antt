-- How a run went, by its history.
use Rattle.std.specs.Prelude.{ℕ, ◌≡◌, ◌<◌, ◌⊎◌, Bool, true, false, List, length, Option, Some, None}
use Rattle.just_sched_history.specs.declared.event.Event.{Event}
use Rattle.just_sched_history.specs.declared.event.Reason.{Reason}
use Rattle.just_sched_history.specs.declared.event.Reason.TheVariants as reason
use Rattle.just_sched_history.specs.declared.event.Verdict.{Verdict}
use Rattle.just_sched_history.specs.declared.event.Verdict.TheVariants as verdict
use Rattle.just_sched_history.specs.State.{reason_of, has_caught, caught_signal}
use Rattle.just_sched_history.specs.Legal.{Run, IsComplete}

-- the reason decides how the run went: it is one, and another than that of an interrupted body
abbrev pub decides : Option Reason → Bool
decides None = false
decides (Some reason.Interrupted) = false
decides (Some reason.Status) = true
decides (Some reason.NotConfirmed) = true
decides (Some (reason.Input j m)) = true
decides (Some (reason.Output j)) = true
decides (Some (reason.Place c m)) = true
decides (Some (reason.Fault c)) = true
decides (Some reason.NoMemory) = true

-- n is the node of least number whose failure decides
pub record IsLeast (s : Run) (h : List Event) (n : ℕ) : Type 0 where
  pub is_node : n < length s.nodes
  pub does : decides (reason_of h n) ≡ true
  pub least : (m : ℕ) → m < n → decides (reason_of h m) ≡ false

-- no node's failure decides
abbrev pub NoneDecides : Run → List Event → Type 0
NoneDecides s h = (n : ℕ) → n < length s.nodes → decides (reason_of h n) ≡ false

-- the least failure that decides gives the verdict, want of memory where that is its reason; else the signal, where one
-- was caught and the history isn't complete; else all went well
abbrev pub IsVerdict : Run → List Event → Verdict → Type 0
IsVerdict s h verdict.Well = NoneDecides s h × ((has_caught h ≡ false) ⊎ IsComplete s h)
IsVerdict s h (verdict.Failed n) = IsLeast s h n × (reason_of h n ≡ Some reason.NoMemory → ⊥)
IsVerdict s h (verdict.Interrupted signal) = NoneDecides s h × (caught_signal h ≡ Some signal) × (IsComplete s h → ⊥)
IsVerdict s h verdict.NoMemory = (n : ℕ) × IsLeast s h n × (reason_of h n ≡ Some reason.NoMemory)
