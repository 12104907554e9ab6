-- How words end: by a run, by a dry run, by what is no run, or by a refusal.
use Rattle.std.specs.Prelude.{ℕ, ◌≡◌, ◌<◌, ◌++◌, Bool, true, List, [], Some, None, Result, Ok, Err, IfOk, IfErr}
use Rattle.just_host_record.specs.Record.{faults_of, misses_of}
use Rattle.just_host_record.specs.World.{Moment}
use Rattle.just_host_record.specs.declared.entry.Entry.{Entry}
use Rattle.just_sched_history.specs.Favourable.{IsFavourable}
use Rattle.just_sched_history.specs.declared.plan.Plan.{Plan}
use Rattle.just_exec.specs.Codes.{exit_code}
use Rattle.just_exec.specs.declared.error.Error.{Error}
use Rattle.just_exec.specs.declared.error.Error.TheVariants as error
use Rattle.just_cli_plan.specs.Own.{is_fault, is_miss}
use Rattle.just_cli_plan.specs.Request.{Outline, outline_of}
use Rattle.just_cli.specs.declared.ended.Failure.{Failure}
use Rattle.just_cli.specs.declared.ended.Report.{Report}
use Rattle.just_cli.specs.declared.task.Other.{Other}
use Rattle.just_cli.specs.declared.task.Other.TheVariants as no_run
use Rattle.just_cli.specs.Acts.{Act, folders_in}
use Rattle.just_cli.specs.Altered.{EndsAsItWas, StaysAsItWas}
use Rattle.just_cli.specs.Answered.{Asking, asked_by, IsFound, IsServed}
use Rattle.just_cli.specs.Asked.{Asked}
use Rattle.just_cli.specs.Dry.{IsPlanTold}
use Rattle.just_cli.specs.Other.{Does, HeedsQuiet, LeavesFor, StaysFor}
use Rattle.just_cli.specs.Preparing.{LeavesActs}
use Rattle.just_cli.specs.Record.{EndsWell, EndsIll, EndsUnopened, IsQuiet, Gains, AreRefusals, Removes}

-- a result has a plan
abbrev pub HasPlan : Result Report Failure → Plan → Type 0
HasPlan (Ok r) plan = r.plan ≡ plan
HasPlan (Err f) plan = f.plan ≡ Some plan

-- A run of that outline, over a host that told that before and tells that after it, has this result.
pub record IsRun (q : Asking) (o : Outline) (before after : Moment) (result : Result Report Failure) : Type 0 where
  -- it is asked for, over these listings and with these acts; and the moments when its book was opened behind that, and when it was closed
  pub listings : List Entry
  pub acts : List Act
  pub opened : Moment
  pub settled : Moment
  pub found : IsFound q before.world listings acts opened.world (Ok (Asked.run o))
  -- whether quiet is asked for
  pub quiet : Bool
  pub quiet_is : q.quiet quiet
  -- its plan has that outline
  pub plan : Plan
  pub has_plan : HasPlan result plan
  pub outlined : outline_of plan o.jobs o.messages ≡ o
  -- a report's history is that of a run which ended well, a failure's that of one which ended ill
  pub ran : IfOk result (λ r. ∥ EndsWell listings acts plan o.jobs r.history before opened settled after ∥₁)
  pub failed : IfErr result (λ f. ∥ EndsIll listings acts plan o.jobs o.messages quiet f.history f.error before opened settled after ∥₁)
  -- over a told world it ends well, unless something stood against it
  pub complete : IsServed q listings acts o.jobs before opened after result
  -- the exit code is the error's
  pub code : IfErr result (λ f. f.code ≡ exit_code f.error)
  -- over a favourable record it fails by want of memory alone
  pub favoured : IfErr result (λ f. (es : List Entry) → after.entries ≡ before.entries ++ es → IsFavourable es → f.error ≡ error.NoMemory)
  -- the error of a failed call has its failure in the record, and that of a miss its miss
  pub faults : IfErr result (λ f. is_fault f.error ≡ true → faults_of before.entries < faults_of after.entries)
  pub misses : IfErr result (λ f. is_miss f.error ≡ true → misses_of before.entries < misses_of after.entries)
  -- where no child was started or run to its end and nothing failed, the told world is as it was, but for entries of the plan's caches, and for paths at or
  -- below the temporary folders
  pub untouched : (es : List Entry) → after.entries ≡ before.entries ++ es → IsQuiet es → ∥ EndsAsItWas (folders_in acts) plan.nodes before.world after.world ∥₁

-- a failure by that error, before there is a plan
abbrev pub refusal : Error → Failure
refusal e = record { error = e; plan = None; history = []; code = exit_code e }

-- What is asked for is refused by that error, or memory is wanting before its book is opened: nothing is run.
pub record IsRefused (q : Asking) (e : Error) (before after : Moment) (result : Result Report Failure) : Type 0 where
  pub listings : List Entry
  pub acts : List Act
  pub between : Moment
  pub found : IsFound q before.world listings acts between.world (Err e)
  pub quiet : Bool
  pub quiet_is : q.quiet_at quiet e
  pub failure : result ≡ Err (refusal e)
  -- the book wasn't opened
  pub left : EndsUnopened listings acts quiet e before between after
  -- over a told world nothing else is asked for, unless something stood against it
  pub complete : IsServed q listings acts None before between after result
  pub faults : is_fault e ≡ true → faults_of before.entries < faults_of after.entries
  pub misses : is_miss e ≡ true → misses_of before.entries < misses_of after.entries
  -- where no child was run to its end and nothing failed, the told world is as it was, but for paths at or below the temporary folders
  pub untouched : (es : List Entry) → after.entries ≡ before.entries ++ es → IsQuiet es → StaysAsItWas (folders_in acts) before.world after.world

-- Behind the moment when it was done the temporary folders were removed, which leaves misses and failures alone.
abbrev pub EndsCleared : List Act → Moment → Moment → Type 0
EndsCleared acts settled after = Gains AreRefusals settled after × Removes (folders_in acts) settled after

-- What is no run is asked for, and done.
pub record IsOther (q : Asking) (x : Asked) (c : Other) (before after : Moment) (result : Result Report Failure) : Type 0 where
  -- it is asked for, over these listings and with these acts; and the moments when it was found, and when it was done
  pub listings : List Entry
  pub acts : List Act
  pub between : Moment
  pub settled : Moment
  pub found : IsFound q before.world listings acts between.world (Ok x)
  pub prepared : Gains (LeavesFor c listings acts) before between
  -- whether quiet is asked for
  pub quiet : Bool
  pub quiet_is : HeedsQuiet q.quiet c quiet
  pub done : Does c quiet between settled result
  pub cleared : EndsCleared acts settled after
  -- where no child was run to its end and nothing failed, the told world is as it was, but for paths at or below the temporary folders, and for what is done
  pub untouched : (es : List Entry) → after.entries ≡ before.entries ++ es → IsQuiet es → StaysFor c (folders_in acts) before.world after.world

-- A dry run is asked for, and its plan told: no child is started, and no cache looked at.
pub record IsDry (q : Asking) (o : Outline) (before after : Moment) (result : Result Report Failure) : Type 0 where
  -- it is asked for, over these listings and with these acts; and the moments when it was found, and when it was told
  pub listings : List Entry
  pub acts : List Act
  pub between : Moment
  pub settled : Moment
  pub found : IsFound q before.world listings acts between.world (Ok (Asked.dry o))
  pub prepared : Gains (LeavesActs listings acts) before between
  -- whether quiet is asked for
  pub quiet : Bool
  pub quiet_is : q.quiet quiet
  -- a plan of that outline is told
  pub plan : Plan
  pub outlined : outline_of plan o.jobs o.messages ≡ o
  pub told : IsPlanTold plan quiet between settled result
  pub cleared : EndsCleared acts settled after
  -- where no child was run to its end and nothing failed, the told world is as it was, but for paths at or below the temporary folders
  pub untouched : (es : List Entry) → after.entries ≡ before.entries ++ es → IsQuiet es → StaysAsItWas (folders_in acts) before.world after.world

-- how that ends which is asked for
abbrev pub Ends : Asking → Moment → Moment → Result Report Failure → Result Asked Error → Type 0
Ends q before after result (Ok (Asked.other c)) = IsOther q (Asked.other c) c before after result
Ends q before after result (Ok (Asked.listing p)) = IsOther q (Asked.listing p) (no_run.Show p) before after result
Ends q before after result (Ok (Asked.run o)) = IsRun q o before after result
Ends q before after result (Ok (Asked.dry o)) = IsDry q o before after result
Ends q before after result (Err e) = IsRefused q e before after result

-- The words end by what they ask for.
pub record IsEnded (words : List (List ℕ)) (before after : Moment) (result : Result Report Failure) : Type 0 where
  pub asked : Result Asked Error
  pub ends : Ends (asked_by words before.world) before after result asked
