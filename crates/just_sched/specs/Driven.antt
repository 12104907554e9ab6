-- What the drive of a run promises.
use Rattle.std.specs.Prelude.{ℕ, ◌≡◌, ◌<◌, ◌⊎◌, true, List, length}
use Rattle.just_host_record.specs.World.{Moment}
use Rattle.just_sched_history.specs.declared.event.Event.{Event}
use Rattle.just_sched_history.specs.declared.event.Idle.{Idle}
use Rattle.just_sched_history.specs.declared.event.Verdict.{Verdict}
use Rattle.just_sched_history.specs.declared.event.Verdict.TheVariants as ended
use Rattle.just_sched_history.specs.declared.plan.Plan.{Plan}
use Rattle.just_sched_history.specs.CacheRule.{GoesByCacheRule, IsSkippedByLook}
use Rattle.just_sched_history.specs.Cached.{is_cached}
use Rattle.just_sched_history.specs.Idle.{IsIdle, HasWork}
use Rattle.just_sched_history.specs.Legal.{IsClosed, IsComplete}
use Rattle.just_sched_history.specs.Start.{Start, IsKept, run_of}
use Rattle.just_sched_history.specs.State.{has_caught}
use Rattle.just_sched_history.specs.Verdict.{IsVerdict}

-- A run that began there was driven to its end: this plan came back with this history and this verdict, over a host that
-- tells this now.
pub record IsDriven (s : Start) (p : Plan) (h : List Event) (v : Verdict) (now : Moment) : Type 0 where
  -- the plan came back as it was
  pub plan : p ≡ s.plan
  -- the history is legal and matches what the record gained, and the world is what its events make of it where nothing was started or failed
  pub kept : ∥ IsKept s h now ∥₁
  -- no body is open
  pub closed : IsClosed (run_of s) h
  -- there is a reason why no move could be made
  pub idle : (i : Idle) × IsIdle (run_of s) h i
  -- so a signal was caught, or no node is ready or to be asked
  pub nothing_left : (has_caught h ≡ true) ⊎ (HasWork (run_of s) h → ⊥)
  -- the verdict is that of the history
  pub verdict : IsVerdict (run_of s) h v
  -- where all went well, each node of the plan is finished
  pub complete : v ≡ ended.Well → IsComplete (run_of s) h
  -- each cached body went by the cache rule
  pub cached : (n : ℕ) → is_cached s.plan.nodes n ≡ true → GoesByCacheRule (run_of s) h n
  -- and where all went well, it was skipped exactly where its look was full, and else begun
  pub skipped : v ≡ ended.Well → (n : ℕ) → n < length s.plan.nodes → is_cached s.plan.nodes n ≡ true → IsSkippedByLook s.plan.nodes h n
