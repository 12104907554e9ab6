-- What a book holds of its run.
use Rattle.std.specs.Prelude.{ℕ, ◌≡◌, ◌+◌, ◌-◌, ◌≤◌, List, Option, MatchOption}
use Rattle.just_host_record.specs.declared.signal.Signal.{Signal}
use Rattle.just_host_record.specs.World.{Moment}
use Rattle.just_sched_history.specs.declared.event.Event.{Event}
use Rattle.just_sched_history.specs.declared.event.Event.TheVariants as event
use Rattle.just_sched_history.specs.Legal.{open_bodies}
use Rattle.just_sched_history.specs.Room.{total_commands, settle_count}
use Rattle.just_sched_history.specs.Start.{Start, IsKept, run_of}
use Rattle.just_sched_history.specs.State.{caught_signal}

-- A book's account of its run is right: the history is kept over a host that tells this now, the host has spare room for
-- the end of each command that may still be started, so many bodies are open and no more than there are jobs, and this
-- signal was caught first, if any was.
pub record IsAccount (s : Start) (h : List Event) (now : Moment) (spare taken : ℕ) (caught : Option Signal) : Type 0 where
  pub kept : IsKept s h now
  pub spared : total_commands s.plan.nodes ≤ spare + settle_count h
  pub counted : taken ≡ open_bodies (run_of s) h
  pub bound : MatchOption s.jobs (Unit {0}) (λ j. taken ≤ j)
  pub signalled : caught ≡ caught_signal h

-- how many bodies are open behind the event, where so many were before it
abbrev pub taken_behind : Event → ℕ → ℕ
taken_behind (event.Took n) taken = taken + 1
taken_behind (event.Gave n) taken = taken - 1
taken_behind (event.Asked m y) taken = taken
taken_behind (event.Looked m sums seen) taken = taken
taken_behind (event.Skipped m) taken = taken
taken_behind (event.Begun m) taken = taken
taken_behind (event.Started m i c) taken = taken
taken_behind (event.Ended m i c s) taken = taken
taken_behind (event.Saved m) taken = taken
taken_behind (event.Done m o) taken = taken
taken_behind (event.Caught s) taken = taken
