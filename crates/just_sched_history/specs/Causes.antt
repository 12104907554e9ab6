-- What history and record show of a body that failed.
use Rattle.std.specs.Prelude.{ℕ, ◌≡◌, ◌+◌, ◌⊎◌, false, List, length, Contains}
use Rattle.just_path.specs.declared.host.Miss.{Miss}
use Rattle.just_host_record.specs.declared.entry.Call.{Call}
use Rattle.just_host_record.specs.declared.entry.Call.TheVariants as call
use Rattle.just_host_record.specs.declared.entry.Entry.{Entry}
use Rattle.just_host_record.specs.declared.entry.Entry.TheVariants as entry
use Rattle.just_host_record.specs.declared.entry.Status.{Status}
use Rattle.just_sched_history.specs.declared.event.Event.{Event}
use Rattle.just_sched_history.specs.declared.event.Event.TheVariants as event
use Rattle.just_sched_history.specs.Match.{is_yes}
use Rattle.just_sched_history.specs.State.{statuses}

-- a failure of the call; of a wait, maybe as the end of another child
abbrev pub ShowsFailure : Call → List Entry → Type 0
ShowsFailure c es = Contains es (entry.Failed c) ⊎ ((c ≡ call.Wait) × (child other : ℕ) × Contains es (entry.Strayed child other))

-- such a miss, of some path
abbrev pub ShowsMiss : Miss → List Entry → Type 0
ShowsMiss m es = (path : List ℕ) × Contains es (entry.Missed path m)

-- an answer to a prompt that is no yes
abbrev pub ShowsRefusal : List Entry → Type 0
ShowsRefusal es = (prompt answer : List ℕ) × Contains es (entry.Asked prompt answer) × (is_yes answer ≡ false)

-- the command of a node that ended last, with that status: its place and its child, the event of its start, and the entry
-- of its end
pub record EndedLast (h : List Event) (es : List Entry) (n : ℕ) (t : Status) : Type 0 where
  pub place : ℕ
  pub child : ℕ
  pub is_last : place + 1 ≡ length (statuses h n)
  pub started : Contains h (event.Started n place child)
  pub ended : Contains es (entry.Ended child t)
