-- What a run over a host in memory is.
use Rattle.std.specs.Prelude.{ℕ, Bool, List, [], Option, option_map}
use Rattle.std.specs.Int.NonZero.{non_zero_u64_get}
use Rattle.std.specs.declared.num.NonZeroU64.{NonZeroU64}
use Rattle.just_host_record.specs.World.{Moment}
use Rattle.just_sched_history.specs.declared.event.Event.{Event}
use Rattle.just_sched_history.specs.declared.event.Verdict.{Verdict}
use Rattle.just_sched_history.specs.declared.plan.Plan.{Plan}
use Rattle.just_sched_history.specs.Start.{start_with}
use Rattle.just_sched.specs.Driven.{IsDriven}
use Rattle.just_cli.specs.declared.task.Task.TheVariants as task
use Rattle.just_cli.specs.Tasks.{IsTask}

-- a history is that of a run which these words ask for over a host that tells this, driven to its end
pub record IsHistoryOf (words : List (List ℕ)) (before : Moment) (h : List Event) : Type 0 where
  pub plan : Plan
  pub jobs : Option NonZeroU64
  pub messages : List Bool
  pub quiet : Bool
  pub made : List (List ℕ)
  pub between : Moment
  pub back : Plan
  pub verdict : Verdict
  pub after : Moment
  pub asked : IsTask words before between [] made (task.Run plan jobs messages quiet)
  pub driven : IsDriven (start_with plan (option_map non_zero_u64_get jobs) between) back h verdict after
