-- A plan that is told, and not run; or that isn't told to its end.
use Rattle.std.specs.Prelude.{◌≡◌, Bool, [], Result, Ok, Err, IfOk, IfErr}
use Rattle.just_host_record.specs.World.{Moment}
use Rattle.just_sched_history.specs.declared.plan.Plan.{Plan}
use Rattle.just_exec.specs.declared.error.Error.{Error}
use Rattle.just_cli_children.specs.DryRuns.{told_of_all, Tells}
use Rattle.just_cli.specs.declared.ended.Failure.{Failure}
use Rattle.just_cli.specs.declared.ended.Report.{Report}
use Rattle.just_cli.specs.Printing.{IsPlanless, TellsError}

-- a front of it is told, and then the error
abbrev pub IsPlanUntold : Plan → Bool → Moment → Moment → Error → Type 0
IsPlanUntold plan quiet before after e =
    (now : Moment) × Tells (told_of_all plan.nodes) before now (Err e) × TellsError quiet e now.entries after.entries × (after.world ≡ now.world)

-- What a run of a plan would tell is told, each text once and in the order of the nodes, and nothing is run; or one of these texts isn't told.
pub record IsPlanTold (plan : Plan) (quiet : Bool) (before after : Moment) (result : Result Report Failure) : Type 0 where
  pub told : IfOk result (λ r. (r.plan ≡ plan) × (r.history ≡ []) × Tells (told_of_all plan.nodes) before after (Ok tt))
  pub untold : IfErr result (λ f. IsPlanless f × IsPlanUntold plan quiet before after f.error)
