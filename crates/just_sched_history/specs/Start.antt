-- What a run is of, as it was when its book was opened, and what the book keeps of it.
use Rattle.std.specs.Prelude.{ℕ, ◌≡◌, false, List, ◌++◌, Option}
use Rattle.std.specs.List.{list_any}
use Rattle.just_host_record.specs.declared.entry.Entry.{Entry}
use Rattle.just_host_record.specs.Record.{children, is_failed}
use Rattle.just_host_record.specs.World.{Moment}
use Rattle.just_sched_history.specs.declared.event.Event.{Event}
use Rattle.just_sched_history.specs.declared.plan.Plan.{Plan}
use Rattle.just_sched_history.specs.Effects.{IsMadeBy}
use Rattle.just_sched_history.specs.Legal.{Run, IsLegal, all_starts}
use Rattle.just_sched_history.specs.Match.{Matches}

-- the plan, the job limit if there is one, and what the host told
pub record Start : Type 0 where
  pub plan : Plan
  pub jobs : Option ℕ
  pub told : Moment

-- the run of a plan with that job limit, if there is one, over a host with that record
abbrev pub run_over : Plan → Option ℕ → List Entry → Run
run_over plan jobs entries = record { nodes = plan.nodes; invocations = plan.invocations; jobs = jobs; base = children entries }

-- the run that begins there
abbrev pub run_of : Start → Run
run_of s = run_over s.plan s.jobs s.told.entries

-- A history that was made since then, over a host that tells this now: the history is legal, it matches what the record
-- gained, and where no child was started and no call failed, the world is what the history's events make of the one at the
-- start.
pub record IsKept (s : Start) (h : List Event) (now : Moment) : Type 0 where
  pub legal : IsLegal (run_of s) h
  pub gained : List Entry
  pub grew : now.entries ≡ s.told.entries ++ gained
  pub matches : Matches (run_of s) h gained
  pub made : all_starts h ≡ 0 → list_any is_failed gained ≡ false → IsMadeBy (run_of s) h s.told.world now.world

-- what a run is of that has this plan, this job limit and a host that told this
abbrev pub start_with : Plan → Option ℕ → Moment → Start
start_with plan jobs told = record { plan = plan; jobs = jobs; told = told }
