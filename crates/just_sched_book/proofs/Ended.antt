-- A run at its end: no work is left, and where no failure decides, all is done.
use Rattle.std.proofs.Common.{◌≡◌, ◌<◌, ◌⊎◌, inl, inr, ℕ, true, false, true≢false, refl, Option, Some, None, option_map, MatchOption, sym, ◌∙◌, subst}
use Rattle.std.proofs.Math.Logic.{∥∥₁_elim}
use Rattle.std.specs.Prelude.{List}
use Rattle.std.specs.Int.NonZero.{non_zero_u64_get}
use Rattle.std.specs.declared.num.NonZeroU64.{NonZeroU64}
use Rattle.just_host_record.specs.World.{Moment}
use Rattle.just_sched_history.specs.declared.event.Event.{Event}
use Rattle.just_sched_history.specs.declared.event.Idle.{Idle}
use Rattle.just_sched_history.specs.declared.event.Idle.TheVariants as idle
use Rattle.just_sched_history.specs.declared.event.Verdict.{Verdict}
use Rattle.just_sched_history.specs.declared.event.Verdict.TheVariants as verdict
use Rattle.just_sched_history.specs.Idle.{IsIdle, HasWork, NoneToAsk, EachWaits}
use Rattle.just_sched_history.specs.Legal.{Run, IsLegal, IsClosed, IsComplete}
use Rattle.just_sched_history.specs.Start.{Start, IsKept, run_of}
use Rattle.just_sched_history.specs.Running.{EachNoIsDone}
use Rattle.just_sched_history.specs.State.{has_caught}
use Rattle.just_sched_history.specs.Verdict.{IsVerdict, NoneDecides}
use Rattle.just_sched_history.proofs.ClassLaws.{class_closed}
use Rattle.just_sched_book.proofs.Complete.{complete, complete_prop, jobs_absurd}
use Rattle.just_sched_history.proofs.PlanShape.{IsFormed}
use Rattle.just_sched_history.proofs.Reasons.{no_reason}

-- a job limit, where there is one, is one job or more
abbrev pub AllowsJobs : Option ℕ → Type 0
AllowsJobs jobs = MatchOption jobs (Unit {0}) (λ j. 0 < j)

-- a limit that is given as a number is one job or more
allows : (jobs : Option NonZeroU64) → AllowsJobs (option_map non_zero_u64_get jobs)
allows (Some n) = n.ok
allows None = tt

-- no limit is reached where no body is open
limit_absurd : (s : Run) (h : List Event) (jobs : Option ℕ) → s.jobs ≡ jobs → AllowsJobs jobs → IsClosed s h → IsIdle s h idle.Jobs → ⊥
limit_absurd s h (Some j) same some closed is = jobs_absurd s h j closed same some is
limit_absurd s h None same some closed is = absurd (cc (sym same ∙ is.3))

-- no node waits for an open body where none is open
nothing_waits : (s : Run) (h : List Event) → IsClosed s h → NoneToAsk s h → EachWaits s h → HasWork s h → ⊥
nothing_waits s h closed none waits (n, inl ready) = true≢false (sym (waits n ready) ∙ class_closed s h n closed)
nothing_waits s h closed none waits (n, inr to_ask) = none n to_ask

-- where a book with no body open is idle, a signal was caught or nothing is left to do
pub nothing_left : (s : Run) (h : List Event) (i : Idle) → AllowsJobs s.jobs → IsClosed s h → IsIdle s h i → (has_caught h ≡ true) ⊎ (HasWork s h → ⊥)
nothing_left s h idle.Signal some closed is = inl is
nothing_left s h idle.Nothing some closed is = inr is.1
nothing_left s h idle.Jobs some closed is = inr (λ work. limit_absurd s h s.jobs refl some closed is)
nothing_left s h idle.Class some closed (calm, work, none, free, waits) = inr (λ any. nothing_waits s h closed none waits any)

-- the same of a limit that is given as a number
pub nothing_left_by : (s : Run) (h : List Event) (i : Idle) (jobs : Option NonZeroU64) → option_map non_zero_u64_get jobs ≡ s.jobs → IsClosed s h → IsIdle s h i → (has_caught h ≡ true) ⊎ (HasWork s h → ⊥)
nothing_left_by s h i jobs are closed is = nothing_left s h i (subst AllowsJobs are (allows jobs)) closed is

-- where no node failed and nothing can be done, all is done
pub all_done : (s : Run) (h : List Event) → ∥ IsFormed s ∥₁ → EachNoIsDone h → IsLegal s h → IsClosed s h → has_caught h ≡ false → NoneDecides s h → (HasWork s h → ⊥) → IsComplete s h
all_done s h formed answered legal closed calm well nothing =
    ∥∥₁_elim formed (complete_prop s h) (λ f. complete s h f legal closed (no_reason s h legal well calm) answered calm nothing)

-- a body's end without a failure that decides, where nothing is left to do, is the end of all
ended_complete : (s : Start) (h : List Event) (now : Moment) → ∥ IsKept s h now ∥₁ → EachNoIsDone h → IsClosed (run_of s) h → NoneDecides (run_of s) h → has_caught h ≡ false → (has_caught h ≡ true) ⊎ (HasWork (run_of s) h → ⊥) → IsComplete (run_of s) h
ended_complete s h now kept answered closed none calm (inl c) = absurd (true≢false (sym c ∙ calm))
ended_complete s h now kept answered closed none calm (inr nothing) =
    ∥∥₁_elim kept (complete_prop (run_of s) h) (λ k. all_done (run_of s) h s.plan.well answered k.legal closed calm none nothing)

-- a run that went well, and in which nothing is left to do, is complete
pub well_complete : (s : Start) (h : List Event) (now : Moment) (v : Verdict)
    → ∥ IsKept s h now ∥₁ → EachNoIsDone h → IsClosed (run_of s) h → (has_caught h ≡ true) ⊎ (HasWork (run_of s) h → ⊥) → IsVerdict (run_of s) h v → v ≡ verdict.Well → IsComplete (run_of s) h
well_complete s h now v kept answered closed left judged well = well_by (subst (λ x. IsVerdict (run_of s) h x) well judged)
  where
    -- a run that went well is complete, by what its verdict says
    well_by : IsVerdict (run_of s) h verdict.Well → IsComplete (run_of s) h
    well_by (none, inl calm) = ended_complete s h now kept answered closed none calm left
    well_by (none, inr complete) = complete
