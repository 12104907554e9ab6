-- Which bodies of a run run a child, and how many.
use Rattle.std.specs.Prelude.{ℕ, ◌≡◌, ◌<◌, ◌⊎◌, true, false, List, length, count_by}
use Rattle.std.specs.List.{list_any, range_with_len}
use Rattle.just_sched_history.specs.declared.event.Event.{Event}
use Rattle.just_sched_history.specs.Legal.{Run}
use Rattle.just_sched_history.specs.Match.{IsStranger}
use Rattle.just_sched_history.specs.Moves.{RunsWith}
use Rattle.just_sched_history.specs.State.{answers, is_done, is_open, is_running}

-- how many bodies run a child
abbrev pub running_bodies : Run → List Event → ℕ
running_bodies s h = count_by (λ n. is_running h n) (range_with_len 0 (length s.nodes))

-- each open body runs a child
abbrev pub EachOpenRuns : List Event → Type 0
EachOpenRuns h = (n : ℕ) → is_open h n ≡ true → is_running h n ≡ true

-- each node whose prompt was answered by a no is done
abbrev pub EachNoIsDone : List Event → Type 0
EachNoIsDone h = (n : ℕ) → list_any (answers false n) h ≡ true → is_done h n ≡ true

-- n is the running node of least number
pub record IsLeastRunning (h : List Event) (n : ℕ) : Type 0 where
  pub runs : is_running h n ≡ true
  pub least : (m : ℕ) → m < n → is_running h m ≡ false

-- The node of which an end is noted, where a child has ended: the node that runs with that child, where there is one, else
-- the running node of least number.
abbrev pub IsNotedFor : List Event → ℕ → ℕ → Type 0
IsNotedFor h child n = RunsWith h n child ⊎ (IsStranger h child × IsLeastRunning h n)
