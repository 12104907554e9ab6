-- A child that is run alone in the place of a run.
use Rattle.std.specs.Prelude.{◌≡◌, Bool, Result, Ok, Err, IfOk, IfErr}
use Rattle.just_host_record.specs.World.{Moment}
use Rattle.just_exec.specs.declared.error.Error.{Error}
use Rattle.just_cli_children.specs.declared.child.Child.{Child}
use Rattle.just_cli_children.specs.Children.{RunsAlone}
use Rattle.just_cli.specs.declared.ended.Failure.{Failure}
use Rattle.just_cli.specs.declared.ended.Report.{Report}
use Rattle.just_cli.specs.Printing.{IsPlanless, TellsError}
use Rattle.just_cli.specs.Questions.{IsNothing}

-- it isn't run, or doesn't end with the code 0, and the error is told then
abbrev pub IsUnwell : Child → Bool → Moment → Moment → Error → Type 0
IsUnwell c quiet before after e = (now : Moment) × RunsAlone c before now (Err e) × TellsError quiet e now.entries after.entries × (after.world ≡ now.world)

-- No recipe is run; the child is started once, waited for and settled, and ends with the code 0; or one of these fails.
pub record IsInvoked (c : Child) (quiet : Bool) (before after : Moment) (result : Result Report Failure) : Type 0 where
  pub well : IfOk result (λ r. IsNothing r × RunsAlone c before after (Ok tt))
  pub unwell : IfErr result (λ f. IsPlanless f × IsUnwell c quiet before after f.error)
