-- How words end, from what was done for them and the removal of the folders.
use Rattle.std.proofs.Common.{◌≡◌, inl, inr, ℕ, Bool, List, [], Option, Some, None, Result, Ok, Err, refl, sym, subst}
use Rattle.std.specs.Prelude.{OnOk, OnErr}
use Rattle.just_host_record.specs.World.{Moment}
use Rattle.just_sched_history.specs.declared.event.Event.{Event}
use Rattle.just_sched_history.specs.declared.event.Verdict.{Verdict}
use Rattle.just_sched_history.specs.declared.plan.Plan.{Plan}
use Rattle.just_sched_history.specs.declared.plan_node.PlanNode.{PlanNode}
use Rattle.just_sched.specs.Driven.{IsDriven}
use Rattle.just_sched_history.specs.Start.{start_with}
use Rattle.just_search.specs.Removals.{RemovesAll, RemovesSome, InTurn, TriesFolder}
use Rattle.just_exec.specs.Codes.{exit_code}
use Rattle.just_exec.specs.declared.error.Error.{Error}
use Rattle.just_cli_plan.specs.Outcome.{IsErrorFor}
use Rattle.just_cli_plan.specs.Request.{outline_of}
use Rattle.just_cli.specs.declared.ended.Failure.{Failure}
use Rattle.just_cli.specs.declared.ended.Report.{Report}
use Rattle.just_cli.specs.declared.task.Other.{Other}
use Rattle.just_cli.specs.declared.task.Other.TheVariants as no_run
use Rattle.just_cli.specs.Answered.{asked_by}
use Rattle.just_cli.specs.declared.task.Task.TheVariants as task
use Rattle.just_cli_texts.specs.declared.printed.Printed.{Printed}
use Rattle.just_host_record.specs.declared.entry.Entry.{Entry}
use Rattle.just_cli.specs.Acts.{Act}
use Rattle.just_cli.specs.Dry.{IsPlanTold}
use Rattle.just_cli.specs.Asked.{Asked, Asks}
use Rattle.just_cli.specs.Other.{Does, HeedsQuiet, LeavesFor, StaysFor}
use Rattle.just_cli.specs.Preparing.{LeavesActs}
use Rattle.just_cli.specs.Printing.{IsPrinted}
use Rattle.just_cli.specs.Quiet.{AsksQuiet, AskQuiet}
use Rattle.just_cli.specs.Record.{Removes}
use Rattle.just_cli.specs.Run.{IsEnded}
use Rattle.just_cli.specs.Tasks.{HasPath, PreparesWords, IsTask}
use Rattle.just_cli.proofs.Answered.{words_ask_one}
use Rattle.just_cli.proofs.Runs.{IsToldBehind, dry_done, other_done, question_done, refused_before, run_well, run_ill}

-- each folder is removed, or memory is wanting behind some
pub removed_so : {A E : Type 0} (folders : List (List ℕ)) (before after : Moment) (r : Result A E) → OnOk r (RemovesAll before folders after) → OnOk r (InTurn TriesFolder before folders after) → OnErr r (RemovesSome before folders after) → Removes folders before after
removed_so folders before after (Ok x) all tried some = inl (all, tried)
removed_so folders before after (Err e) all tried some = inr some

-- ---- what is no run

-- what was done is what is done for it
pub does_so : (c d : Other) (quiet : Bool) (before after : Moment) (r : Result Report Failure) → c ≡ d → Does d quiet before after r → Does c quiet before after r
does_so c d quiet before after r is done = subst (λ o. Does o quiet before after r) (sym is) done

module _ (words : List (List ℕ)) (before between settled after : Moment) (kept made : List (List ℕ)) (quiet : Bool) (r : Result Report Failure) (none : kept ≡ []) (removes : Removes made settled after) where
  abbrev Prepared : Asked → Type 0
  Prepared x = PreparesWords words before between kept made (Ok x) × AsksQuiet words before.world quiet

  -- the listing of a module is printed
  pub ended_listing : (p : Printed) → Prepared (Asked.listing p) → IsPrinted p quiet between settled r → IsEnded words before after r
  ended_listing p asks done = record {
    asked = Ok (Asked.listing p);
    ends = other_done (asked_by words before.world) before between settled after (words_ask_one words before.world) kept made (Asked.listing p) (no_run.Show p) quiet r (λ listings acts es left. left) none asks.0 asks.1 done removes;
  }

  -- a plan is told
  pub ended_dry : (plan : Plan) (jobs : Option ℕ) (messages : List Bool) → Prepared (Asked.dry (outline_of plan jobs messages)) → IsPlanTold plan quiet between settled r → IsEnded words before after r
  ended_dry plan jobs messages asks told = record {
    asked = Ok (Asked.dry (outline_of plan jobs messages));
    ends = dry_done (asked_by words before.world) before between settled after (words_ask_one words before.world) kept made plan jobs messages quiet r none asks.0 asks.1 told removes;
  }

  -- what a command asks for is done
  command_ended : (c : Other) → ((listings : List Entry) (acts : List Act) (es : List Entry) → LeavesActs listings acts es → LeavesFor c listings acts es) → PreparesWords words before between kept made (Ok (Asked.other c)) → HeedsQuiet (AsksQuiet words before.world) c quiet
      → Does c quiet between settled r → IsEnded words before after r
  command_ended c leaves asks heeds does = record {
    asked = Ok (Asked.other c);
    ends = other_done (asked_by words before.world) before between settled after (words_ask_one words before.world) kept made (Asked.other c) c quiet r leaves none asks heeds does removes;
  }

  question_ended : (c : Other) → LeavesFor c [] [] [] → (Does c quiet before settled r → settled.world ≡ before.world) → (after.world ≡ before.world → StaysFor c [] before.world after.world) → HeedsQuiet (AsksQuiet words before.world) c quiet → (between ≡ before) × (made ≡ kept) × Asks words before.world [] [] before.world (Ok (Asked.other c)) → Does c quiet between settled r → IsEnded words before after r
  question_ended c leaves still stays heeds asks does = record {
    asked = Ok (Asked.other c);
    ends = question_done (asked_by words before.world) before between settled after (words_ask_one words before.world) kept made c quiet r leaves still stays none asks.1 asks.0 asks.2 heeds does removes;
  }

  pub ended_other : (c : Other) → IsTask words before between kept made (task.Other c quiet) → Does c quiet between settled r → IsEnded words before after r
  ended_other no_run.Help is does = question_ended no_run.Help refl (λ shows. shows.world) (λ same. same) tt is does
  ended_other no_run.Version is does = question_ended no_run.Version refl (λ shows. shows.world) (λ same. same) tt is does
  ended_other (no_run.Init path) is does = command_ended (no_run.Init path) (λ listings acts es left. left) is.0 is.1 does
  ended_other (no_run.Show p) is does = command_ended (no_run.Show p) (λ listings acts es left. left) is.0 is.1 does
  ended_other no_run.Nothing is does = command_ended no_run.Nothing (λ listings acts es left. left) is.0 is.1 does
  ended_other (no_run.Write path text) is does = command_ended (no_run.Write path text) (λ listings acts es left. left) is.0 is.1 does
  ended_other (no_run.Clean folder path) is does = command_ended (no_run.Clean folder path) (λ listings acts es left. left) is.0 is.1 does
  ended_other (no_run.Invoke child) is does = command_ended (no_run.Invoke child) (λ listings acts es left. left) is.0 is.1 does
  ended_other (no_run.Vectors count) is does = command_ended (no_run.Vectors count) (λ listings acts es left. left) is.0 is.1 does

-- a path is one, where one is given, and a child has no script
pub has_path : (words : List (List ℕ)) (before after : Moment) (kept keeps : List (List ℕ)) (c : Other) (quiet : Bool) → IsTask words before after kept keeps (task.Other c quiet) → HasPath c
has_path words before after kept keeps no_run.Help quiet is = tt
has_path words before after kept keeps no_run.Version quiet is = tt
has_path words before after kept keeps (no_run.Init path) quiet is = tt
has_path words before after kept keeps (no_run.Show p) quiet is = tt
has_path words before after kept keeps no_run.Nothing quiet is = tt
has_path words before after kept keeps (no_run.Write path text) quiet is = tt
has_path words before after kept keeps (no_run.Clean folder path) quiet is = is.2
has_path words before after kept keeps (no_run.Invoke child) quiet is = is.2
has_path words before after kept keeps (no_run.Vectors count) quiet is = tt

-- ---- a refusal, and a run

pub ended_refused : (words : List (List ℕ)) (before between middle after : Moment) (quiet : Bool) (kept made : List (List ℕ)) (r : Result Report Failure) (e : Error) (h : List Event)
    → r ≡ Err (record { error = e; plan = None; history = h; code = exit_code e }) → h ≡ [] → kept ≡ [] → PreparesWords words before between kept made (Err e) → AskQuiet words before.world quiet e
    → IsToldBehind quiet e between.entries middle.entries → middle.world ≡ between.world → Removes made middle after → IsEnded words before after r
ended_refused words before between middle after quiet kept made r e h is no_history none asks asks_quiet tells world removes = record {
  asked = Err e;
  ends = refused_before (asked_by words before.world) before between middle after (words_ask_one words before.world) quiet kept made r e h is no_history none asks asks_quiet tells world removes;
}

pub ended_well : (words : List (List ℕ)) (before opened settled after : Moment) (kept made : List (List ℕ)) (jobs : Option ℕ) (messages : List Bool) (quiet : Bool) (plan driven : Plan) (h : List Event) (v : Verdict) (r : Result Report Failure) (nodes : List PlanNode) (heard : List Bool) (shown : List Event)
    → r ≡ Ok (record { plan = driven; history = h }) → IsDriven (start_with plan jobs opened) driven h v settled → kept ≡ [] → PreparesWords words before opened kept made (Ok (Asked.run (outline_of plan jobs messages))) → AsksQuiet words before.world quiet
    → IsErrorFor nodes heard shown v None → Removes made settled after → IsEnded words before after r
ended_well words before opened settled after kept made jobs messages quiet plan driven h v r nodes heard shown is driven_so none asks asks_quiet no_error removes = record {
  asked = Ok (Asked.run (outline_of plan jobs messages));
  ends = run_well (asked_by words before.world) before opened settled after (words_ask_one words before.world) kept made jobs messages quiet plan driven h v r nodes heard shown is driven_so none asks asks_quiet no_error removes;
}

pub ended_ill : (words : List (List ℕ)) (before opened settled middle after : Moment) (kept made : List (List ℕ)) (jobs : Option ℕ) (messages : List Bool) (quiet : Bool) (plan driven : Plan) (h : List Event) (heard : List Bool) (shown : List Event) (v : Verdict) (e : Error) (r : Result Report Failure)
    → r ≡ Err (record { error = e; plan = Some driven; history = h; code = exit_code e }) → IsDriven (start_with plan jobs opened) driven h v settled → kept ≡ []
    → PreparesWords words before opened kept made (Ok (Asked.run (outline_of plan jobs messages))) → AsksQuiet words before.world quiet → middle.world ≡ settled.world
    → IsErrorFor driven.nodes heard shown v (Some e) → heard ≡ messages → shown ≡ h → IsToldBehind quiet e settled.entries middle.entries → Removes made middle after → IsEnded words before after r
ended_ill words before opened settled middle after kept made jobs messages quiet plan driven h heard shown v e r is driven_so none asks asks_quiet world error_is heard_is shown_is tells removes = record {
  asked = Ok (Asked.run (outline_of plan jobs messages));
  ends = run_ill (asked_by words before.world) before opened settled middle after (words_ask_one words before.world) kept made jobs messages quiet plan driven h heard shown v e r is driven_so none asks asks_quiet world error_is heard_is shown_is tells removes;
}
