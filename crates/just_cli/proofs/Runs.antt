-- A run keeps its promise: from what its steps, its drive, the telling of its error and the removal of its folders ensure.
use Rattle.std.proofs.Common.{◌≡◌, ◌++◌, inl, inr, ℕ, Bool, true, false, true≢false, List, [], ◌∷◌, Option, Some, None, Result, Ok, Err, IfOk, IfErr, refl, sym, ◌∙◌, ap, subst, append_assoc, append-nil}
use Rattle.std.specs.List.{list_any}
use Rattle.std.proofs.Math.Logic.{∥∥₁_map}
use Rattle.std.proofs.lemmas.List.{append_cancel_left}
use Rattle.just_host_record.specs.World.{World, Moment}
use Rattle.just_host_record.specs.Record.{children, is_failed, is_started}
use Rattle.just_host_record.specs.declared.entry.Call.TheVariants as call
use Rattle.just_host_record.specs.declared.entry.Entry.{Entry}
use Rattle.just_host_record.specs.declared.entry.Entry.TheVariants as entry
use Rattle.just_host_record.specs.declared.entry.Stream.TheVariants as stream
use Rattle.just_sched_history.specs.declared.event.Event.{Event}
use Rattle.just_sched_history.specs.declared.event.Verdict.{Verdict}
use Rattle.just_sched_history.specs.declared.event.Verdict.TheVariants as verdict
use Rattle.just_sched_history.specs.declared.plan.Plan.{Plan}
use Rattle.just_sched_history.specs.declared.plan_node.PlanNode.{PlanNode}
use Rattle.just_sched.specs.Driven.{IsDriven}
use Rattle.just_sched_history.specs.Favourable.{IsFavourable}
use Rattle.just_sched_history.specs.Start.{run_over, run_of, start_with}
use Rattle.just_sched_history.specs.Touched.{IsTouched}
use Rattle.just_sched_history.specs.Verdict.{IsVerdict}
use Rattle.just_sched_history.proofs.Laws.{made_touches, nothing_started}
use Rattle.just_cli.specs.declared.ended.Failure.{Failure}
use Rattle.just_cli.specs.declared.ended.Report.{Report}
use Rattle.just_search.specs.Removals.{with_entries}
use Rattle.just_exec.specs.declared.error.Error.{Error}
use Rattle.just_exec.specs.declared.error.Error.TheVariants as error
use Rattle.just_cli_plan.specs.Own.{OrMemory, is_uncaptured}
use Rattle.just_cli_plan.specs.Outcome.{IsErrorFor}
use Rattle.just_cli.specs.Acts.{Act, AreActs, folders_in, captures_in}
use Rattle.just_cli.specs.Altered.{IsAltered, EndsAsItWas, StaysAsItWas}
use Rattle.just_cli_plan.specs.Pairs.{entries_of as entries_in}
use Rattle.just_cli.specs.Preparing.{EndsWith, LeavesActs, EndsActs, Performs, Prepares}
use Rattle.just_config.specs.declared.help.TheConstants.{HELP}
use Rattle.just_cli_texts.specs.declared.printed.Printed.{Printed}
use Rattle.just_cli_texts.specs.Prints.{alone}
use Rattle.just_cli_vectors.specs.Vectors.{vectors_text}
use Rattle.just_cli.specs.declared.task.Other.{Other}
use Rattle.just_cli.specs.declared.task.Other.TheVariants as no_run
use Rattle.just_cli_children.specs.declared.child.Child.{Child}
use Rattle.just_cli_children.specs.Children.{RunsAlone}
use Rattle.just_cli_children.specs.DryRuns.{told_of_all, Tells}
use Rattle.just_cli_children.specs.Faults.{entries_of}
use Rattle.just_cli.specs.Dry.{IsPlanTold}
use Rattle.just_cli.specs.Invoked.{IsInvoked}
use Rattle.just_cli.specs.Other.{Does, HeedsQuiet, LeavesFor, StaysFor}
use Rattle.just_cli.specs.Printing.{told_beside, TellsError, IsUnprintedBy, IsPrinted, IsIdle}
use Rattle.just_cli.specs.Questions.{version_line, IsShown}
use Rattle.just_cli.specs.Record.{Gains, IsTold, AreRefusals, is_captured, IsQuiet, Removes, EndsWell, EndsIll, EndsUnopened, EndsBefore}
use Rattle.just_cli_plan.specs.Request.{outline_of}
use Rattle.just_cli.specs.Answered.{Asking, RefusedFor, IsServed}
use Rattle.just_cli.specs.Asked.{Asked}
use Rattle.just_cli.specs.Request.{ArePassed}
use Rattle.just_cli.specs.Run.{HasPlan, IsRun, IsRefused, IsOther, IsDry, refusal}
use Rattle.just_exec.specs.Codes.{exit_code}
use Rattle.just_cli.proofs.Altering.{quiet_first, quiet_rest, clearing, removes_none, behind_book, ends_as_it_was, stays_as_it_was}
use Rattle.just_cli.proofs.Answered.{AsksOneIn, is_found}
use Rattle.just_cli_plan.proofs.OutcomeLaws.{error_caused, only_memory_left}
use Rattle.just_cli.proofs.Falls.{Failed, faults_rise, misses_rise, memory_wanted}
use Rattle.just_cli.proofs.Served.{refusal_served, failure_served, report_served}

-- what was told behind some stretch
abbrev pub IsToldBehind : Bool → Error → List Entry → List Entry → Type 0
IsToldBehind quiet e now new = (es : List Entry) × (new ≡ now ++ es) × IsTold quiet e es

-- what is asked for is prepared
abbrev Ready : Asking → List Entry → Moment → Moment → List (List ℕ) → List (List ℕ) → Result Asked Error → Type 0
Ready q listings before between kept made r = Performs (q.asks listings) (q.begins listings) (with_entries before listings) between kept made r

-- ---- where no run is asked for

-- a refusal before the book
pub ends_before : (listings : List Entry) (quiet : Bool) (e : Error) (old now new pre : List Entry) → now ≡ old ++ pre → EndsWith listings e pre → IsToldBehind quiet e now new → EndsBefore listings quiet e old new
ends_before listings quiet e old now new pre grew ends told = record {
  stretches = record { pre = pre; mid = []; post = told.0; grew = told.1 ∙ (ap (λ es. es ++ told.0) grew ∙ append_assoc old pre told.0) };
  prepared = ends;
  unopened = refl;
  told = told.2;
}

-- ---- behind a preparation

-- its folders are those that are removed
made_are : (kept made folders : List (List ℕ)) → kept ≡ [] → made ≡ kept ++ folders → made ≡ folders
made_are kept made folders none is = is ∙ ap (λ (fs : List (List ℕ)). fs ++ folders) none

leaves_behind : (listings : List Entry) (acts : List Act) (es : List Entry) → LeavesActs [] acts es → LeavesActs listings acts (listings ++ es)
leaves_behind listings acts es (among, are, is, all) = (among, are, ap (λ l. listings ++ l) is, all)

ends_behind_listings : (listings : List Entry) (acts : List Act) (e : Error) (es : List Entry) → EndsActs [] acts e es → EndsActs listings acts e (listings ++ es)
ends_behind_listings listings acts e es (among, parent, are, is, program) = (among, parent, are, ap (λ l. listings ++ l) is, program)

-- where the record shows no child that was run to its end, none was
no_children : (acts : List Act) (es : List Entry) → AreActs acts es → list_any is_captured es ≡ false → captures_in acts ≡ []
no_children acts es AreActs.none quiet = refl
no_children acts es (AreActs.a_miss path m some rest are) quiet = no_children some rest are quiet
no_children acts es (AreActs.an_act (Act.made folder) some rest are) quiet = no_children some rest are quiet
no_children acts es (AreActs.an_act (Act.captured c) some rest are) quiet = absurd (true≢false quiet)
no_children acts es (AreActs.an_act (Act.uncaptured program) some rest are) quiet = no_children some rest are quiet

-- ---- without a plan

-- a refusal of what is asked for, or want of memory, as why there is no plan
refused_for : (q : Asking) (listings : List Entry) (acts : List Act) (between : Option World) (e : Error) → OrMemory (λ f. q.asks listings acts between (Err f)) e → (is_uncaptured e ≡ false → q.begins listings acts between) → RefusedFor q listings acts between e
refused_for q listings acts between e (inl wants) begun = inr (wants, begun (ap is_uncaptured wants))
refused_for q listings acts between e (inr asks) begun = inl asks

module _ (q : Asking) (before between middle after : Moment) (quiet : Bool) (kept made : List (List ℕ)) (none : kept ≡ []) (e : Error) (listings : List Entry) (p : Ready q listings before between kept made (Err e))
    (tells : IsToldBehind quiet e between.entries middle.entries) (world : middle.world ≡ between.world) (removes : Removes made middle after) where
  removes_here : Removes (folders_in p.acts) middle after
  removes_here = subst (λ fs. Removes fs middle after) (made_are kept made (folders_in p.acts) none p.folders) removes

  unopened : EndsUnopened listings p.acts quiet e before between after
  unopened = record {
    prepared = (listings ++ p.entries, p.grew ∙ append_assoc before.entries listings p.entries, ends_behind_listings listings p.acts e p.entries p.leaves);
    behind = behind_book (folders_in p.acts) (IsTold quiet e) between middle after tells world removes_here;
  }

  stays : (es : List Entry) → after.entries ≡ before.entries ++ es → IsQuiet es → StaysAsItWas (folders_in p.acts) before.world after.world
  stays es grown calm =
      let c = clearing (folders_in p.acts) middle after removes_here in
      let rest = tells.0 ++ c.0 in
      let same : es ≡ listings ++ (p.entries ++ rest) =
      append_cancel_left before.entries es (listings ++ (p.entries ++ rest))
      (sym grown ∙ (c.1 ∙ (ap (λ l. l ++ c.0) (tells.1 ∙ ap (λ l. l ++ tells.0) p.grew) ∙ (append_assoc ((before.entries ++ listings) ++ p.entries) tells.0 c.0 ∙ (append_assoc (before.entries ++ listings) p.entries rest ∙ append_assoc before.entries listings (p.entries ++ rest)))))) in
      let alone : captures_in p.acts ≡ [] =
      no_children p.acts p.leaves.0 p.leaves.2
      (quiet_first is_captured p.leaves.0 (entries_in p.leaves.1 e)
      (ap (λ l. list_any is_captured l) (sym p.leaves.3) ∙ quiet_first is_captured p.entries rest (quiet_rest is_captured listings (p.entries ++ rest) (ap (λ l. list_any is_captured l) (sym same) ∙ calm.no_capture)))) in
      let still : list_any is_failed (p.entries ++ rest) ≡ false = quiet_rest is_failed listings (p.entries ++ rest) (ap (λ l. list_any is_failed l) (sym same) ∙ calm.no_failure) in
      stays_as_it_was (folders_in p.acts) before.world between.world after.world (λ empty. p.still empty alone (quiet_first is_failed p.entries rest still)) (p.alters [] alone (quiet_first is_failed p.entries rest still))
      (λ empty. ap (λ (m : Moment). m.world) (removes_none (folders_in p.acts) middle after empty removes_here) ∙ world)
      (subst (λ w. IsAltered (folders_in p.acts) [] w after.world) world (c.3 [] (quiet_rest is_failed tells.0 c.0 (quiet_rest is_failed p.entries rest still))))

  -- what is refused so
  refused : AsksOneIn q before.world → ArePassed q.global listings → q.quiet_at quiet e → IsRefused q e before after (Err (refusal e))
  refused one passed asks_quiet =
      let found = is_found q before.world one listings passed p.acts between.world (Err e) (refused_for q listings p.acts between.world e p.answers p.begun) in
      record {
        listings = listings;
        acts = p.acts;
        between = between;
        found = found;
        quiet = quiet;
        quiet_is = asks_quiet;
        failure = refl;
        left = unopened;
        complete = refusal_served q listings p.acts None before between after quiet e found.answered unopened;
        faults = faults_rise listings p.acts None [] quiet (Err (refusal e)) before between between after ∣ unopened ∣₁;
        misses = misses_rise listings p.acts None [] quiet (Err (refusal e)) before between between after ∣ unopened ∣₁;
        untouched = stays;
      }

-- a refusal before the book
pub refused_before : (q : Asking) (before between middle after : Moment) → AsksOneIn q before.world → (quiet : Bool) (kept made : List (List ℕ)) (r : Result Report Failure) (e : Error) (h : List Event)
    → r ≡ Err (record { error = e; plan = None; history = h; code = exit_code e }) → h ≡ [] → kept ≡ [] → Prepares {A = Asked} q.global q.asks q.begins before between kept made (Err e) → q.quiet_at quiet e
    → IsToldBehind quiet e between.entries middle.entries → middle.world ≡ between.world → Removes made middle after → IsRefused q e before after r
refused_before q before between middle after one quiet kept made r e h is no_history none (listings, passed, p) asks_quiet tells world removes =
    let same : r ≡ Err (refusal e) = is ∙ ap (λ es. let x : Failure = record { error = e; plan = None; history = es; code = exit_code e } in Err x) no_history in
    subst (λ x. IsRefused q e before after x) (sym same) (refused q before between middle after quiet kept made none e listings p tells world removes one passed asks_quiet)

-- ---- what is no run

-- the folders are removed behind it
cleared_so : (folders acts : List (List ℕ)) (settled after : Moment) → folders ≡ acts → Removes folders settled after → Gains AreRefusals settled after × Removes acts settled after
cleared_so folders acts settled after same removes =
    let c = clearing folders settled after removes in
    ((c.0, c.1, c.2), subst (λ fs. Removes fs settled after) same removes)

-- the record gained some entries, and where they show no child and no failure, the world stays
abbrev GainsStill : Moment → Moment → Type 0
GainsStill between settled = (xs : List Entry) × (settled.entries ≡ between.entries ++ xs) × (list_any is_started xs ≡ false → list_any is_failed xs ≡ false → settled.world ≡ between.world)

-- behind some entries the error is told
still_behind_told : (quiet : Bool) (e : Error) (between now settled : Moment) → GainsStill between now → TellsError quiet e now.entries settled.entries → settled.world ≡ now.world → GainsStill between settled
still_behind_told quiet e between now settled (xs, grew, still) told world = (
  xs ++ told.0,
  told.1 ∙ (ap (λ l. l ++ told.0) grew ∙ append_assoc between.entries xs told.0),
  λ child fail. world ∙ still (quiet_first is_started xs told.0 child) (quiet_first is_failed xs told.0 fail),
)

shown_still : (text : List ℕ) (between settled : Moment) (r : Result Report Failure) → IsShown text between settled r → GainsStill between settled
shown_still text between settled (Ok x) k = (entry.Printed stream.Out text ∷ [], k.shown.1, λ child fail. k.world)
shown_still text between settled (Err f) k =
    let ends = k.unshown.4 in
    let s = ends.stretches in (s.pre ++ (s.mid ++ s.post), s.grew, λ child fail. k.world)

unprinted_gains : (p : Printed) (quiet : Bool) (e : Error) (old now : List Entry) → IsUnprintedBy p quiet e old now → (xs : List Entry) × (now ≡ old ++ xs)
unprinted_gains p quiet e old now (IsUnprintedBy.no_text why grew) = (entries_of e, grew)
unprinted_gains p quiet e old now (IsUnprintedBy.no_line line some loud why grew) = (entry.Printed stream.Out p.text ∷ entries_of e, grew)

printed_still : (p : Printed) (quiet : Bool) (between settled : Moment) (r : Result Report Failure) → IsPrinted p quiet between settled r → GainsStill between settled
printed_still p quiet between settled (Ok x) k = (entry.Printed stream.Out p.text ∷ told_beside quiet p.told, k.printed.1, λ child fail. k.world)
printed_still p quiet between settled (Err f) k =
    let why = k.unprinted.1 in
    let gains = unprinted_gains p quiet f.error between.entries why.0 why.1 in
    let told = why.2 in
    (gains.0 ++ told.0, told.1 ∙ (ap (λ l. l ++ told.0) gains.1 ∙ append_assoc between.entries gains.0 told.0), λ child fail. k.world)

idle_still : (between settled : Moment) (r : Result Report Failure) → IsIdle between settled r → GainsStill between settled
idle_still between settled r k = ([], k.entries ∙ sym (append-nil between.entries), λ child fail. k.world)

-- a child that is run alone is shown, or its failure
alone_still : (c : Child) (between settled : Moment) (r : Result (Unit {0}) Error) → RunsAlone c between settled r → GainsStill between settled
alone_still c between settled r (RunsAlone.ended s grew touched is) = (entry.Started (children between.entries) c.spec ∷ entry.Ended (children between.entries) s ∷ [], grew, λ child fail. absurd (true≢false child))
alone_still c between settled r (RunsAlone.unwaited grew touched is) = (entry.Started (children between.entries) c.spec ∷ entry.Failed call.Wait ∷ [], grew, λ child fail. absurd (true≢false child))
alone_still c between settled r (RunsAlone.unstarted grew touched is) = (entry.Failed call.Start ∷ [], grew, λ child fail. absurd (true≢false fail))
alone_still c between settled r (RunsAlone.no_memory grew world is) = ([], grew ∙ sym (append-nil between.entries), λ child fail. world)

invoked_still : (c : Child) (quiet : Bool) (between settled : Moment) (r : Result Report Failure) → IsInvoked c quiet between settled r → GainsStill between settled
invoked_still c quiet between settled (Ok x) k = alone_still c between settled (Ok tt) k.well.1
invoked_still c quiet between settled (Err f) k =
    let why = k.unwell.1 in
    still_behind_told quiet f.error between why.0 settled (alone_still c between why.0 (Err f.error) why.1) why.2 why.3

-- what is told of a plan leaves the world
tells_still : (all : List Entry) (between settled : Moment) (r : Result (Unit {0}) Error) → Tells all between settled r → GainsStill between settled
tells_still all between settled r (Tells.all_told grew world is) = (all, grew, λ child fail. world)
tells_still all between settled r (Tells.cut_short e cut world is) = (cut.front ++ entries_of e, cut.grew, λ child fail. world)

dry_still : (plan : Plan) (quiet : Bool) (between settled : Moment) (r : Result Report Failure) → IsPlanTold plan quiet between settled r → GainsStill between settled
dry_still plan quiet between settled (Ok x) k = tells_still (told_of_all plan.nodes) between settled (Ok tt) k.told.2
dry_still plan quiet between settled (Err f) k =
    let why = k.untold.1 in
    still_behind_told quiet f.error between why.0 settled (tells_still (told_of_all plan.nodes) between why.0 (Err f.error) why.1) why.2 why.3

module _ (q : Asking) (before between settled after : Moment) (listings : List Entry) (kept made : List (List ℕ)) (none : kept ≡ []) (x : Asked) (p : Ready q listings before between kept made (Ok x)) (removes : Removes made settled after) where
  removed_here : Removes (folders_in p.acts) settled after
  removed_here = subst (λ fs. Removes fs settled after) (made_are kept made (folders_in p.acts) none p.folders) removes

  still_behind : GainsStill between settled → (es : List Entry) → after.entries ≡ before.entries ++ es → IsQuiet es → StaysAsItWas (folders_in p.acts) before.world after.world
  still_behind (xs, gained, stays) es grown calm =
      let c = clearing (folders_in p.acts) settled after removed_here in
      let rest = xs ++ c.0 in
      let same : es ≡ listings ++ (p.entries ++ rest) =
      append_cancel_left before.entries es (listings ++ (p.entries ++ rest))
      (sym grown ∙ (c.1 ∙ (ap (λ l. l ++ c.0) (gained ∙ ap (λ l. l ++ xs) p.grew) ∙ (append_assoc ((before.entries ++ listings) ++ p.entries) xs c.0 ∙ (append_assoc (before.entries ++ listings) p.entries rest ∙ append_assoc before.entries listings (p.entries ++ rest)))))) in
      let alone : captures_in p.acts ≡ [] =
      no_children p.acts p.leaves.0 p.leaves.1
      (ap (λ l. list_any is_captured l) (sym p.leaves.2) ∙ quiet_first is_captured p.entries rest (quiet_rest is_captured listings (p.entries ++ rest) (ap (λ l. list_any is_captured l) (sym same) ∙ calm.no_capture))) in
      let still : list_any is_failed (p.entries ++ rest) ≡ false = quiet_rest is_failed listings (p.entries ++ rest) (ap (λ l. list_any is_failed l) (sym same) ∙ calm.no_failure) in
      let childless : list_any is_started rest ≡ false = quiet_rest is_started p.entries rest (quiet_rest is_started listings (p.entries ++ rest) (ap (λ l. list_any is_started l) (sym same) ∙ calm.no_child)) in
      let world : settled.world ≡ between.world = stays (quiet_first is_started xs c.0 childless) (quiet_first is_failed xs c.0 (quiet_rest is_failed p.entries rest still)) in
      stays_as_it_was (folders_in p.acts) before.world between.world after.world (λ empty. p.still empty alone (quiet_first is_failed p.entries rest still)) (p.alters [] alone (quiet_first is_failed p.entries rest still))
      (λ empty. ap (λ (m : Moment). m.world) (removes_none (folders_in p.acts) settled after empty removed_here) ∙ world)
      (subst (λ w. IsAltered (folders_in p.acts) [] w after.world) world (c.3 [] (quiet_rest is_failed xs c.0 (quiet_rest is_failed p.entries rest still))))

  stays_for : (c : Other) (quiet : Bool) (r : Result Report Failure) → Does c quiet between settled r → (es : List Entry) → after.entries ≡ before.entries ++ es → IsQuiet es → StaysFor c (folders_in p.acts) before.world after.world
  stays_for no_run.Help quiet r does es grown calm = still_behind (shown_still HELP.now between settled r does) es grown calm
  stays_for no_run.Version quiet r does es grown calm = still_behind (shown_still version_line between settled r does) es grown calm
  stays_for (no_run.Init path) quiet r does es grown calm = tt
  stays_for (no_run.Show what) quiet r does es grown calm = still_behind (printed_still what quiet between settled r does) es grown calm
  stays_for no_run.Nothing quiet r does es grown calm = still_behind (idle_still between settled r does) es grown calm
  stays_for (no_run.Write path text) quiet r does es grown calm = tt
  stays_for (no_run.Clean folder path) quiet r does es grown calm = tt
  stays_for (no_run.Invoke child) quiet r does es grown calm = still_behind (invoked_still child quiet between settled r does) es grown calm
  stays_for (no_run.Vectors count) quiet r does es grown calm = still_behind (printed_still (alone (vectors_text count)) quiet between settled r does) es grown calm

-- a plan is told for it
pub dry_done : (q : Asking) (before between settled after : Moment) → AsksOneIn q before.world → (kept made : List (List ℕ)) (plan : Plan) (jobs : Option ℕ) (messages : List Bool) (quiet : Bool) (r : Result Report Failure) → kept ≡ []
    → Prepares {A = Asked} q.global q.asks q.begins before between kept made (Ok (Asked.dry (outline_of plan jobs messages))) → q.quiet quiet → IsPlanTold plan quiet between settled r → Removes made settled after → IsDry q (outline_of plan jobs messages) before after r
dry_done q before between settled after one kept made plan jobs messages quiet r none (listings, passed, p) asks_quiet told removes = record {
  listings = listings;
  acts = p.acts;
  between = between;
  settled = settled;
  found = is_found q before.world one listings passed p.acts between.world (Ok (Asked.dry (outline_of plan jobs messages))) p.answers;
  prepared = (listings ++ p.entries, p.grew ∙ append_assoc before.entries listings p.entries, leaves_behind listings p.acts p.entries p.leaves);
  quiet = quiet;
  quiet_is = asks_quiet;
  plan = plan;
  outlined = refl;
  told = told;
  cleared = cleared_so made (folders_in p.acts) settled after (made_are kept made (folders_in p.acts) none p.folders) removes;
  untouched = λ es grown calm. still_behind q before between settled after listings kept made none (Asked.dry (outline_of plan jobs messages)) p removes (dry_still plan quiet between settled r told) es grown calm;
}

-- what was done for it
pub other_done : (q : Asking) (before between settled after : Moment) → AsksOneIn q before.world → (kept made : List (List ℕ)) (x : Asked) (c : Other) (quiet : Bool) (r : Result Report Failure)
    → ((listings : List Entry) (acts : List Act) (es : List Entry) → LeavesActs listings acts es → LeavesFor c listings acts es) → kept ≡ [] → Prepares {A = Asked} q.global q.asks q.begins before between kept made (Ok x)
    → HeedsQuiet q.quiet c quiet → Does c quiet between settled r → Removes made settled after → IsOther q x c before after r
other_done q before between settled after one kept made x c quiet r leaves none (listings, passed, p) heeds does removes = record {
  listings = listings;
  acts = p.acts;
  between = between;
  settled = settled;
  found = is_found q before.world one listings passed p.acts between.world (Ok x) p.answers;
  prepared = (listings ++ p.entries, p.grew ∙ append_assoc before.entries listings p.entries, leaves listings p.acts (listings ++ p.entries) (leaves_behind listings p.acts p.entries p.leaves));
  quiet = quiet;
  quiet_is = heeds;
  done = does;
  cleared = cleared_so made (folders_in p.acts) settled after (made_are kept made (folders_in p.acts) none p.folders) removes;
  untouched = λ es grown calm. stays_for q before between settled after listings kept made none x p removes c quiet r does es grown calm;
}

-- a question takes nothing
pub question_done : (q : Asking) (before between settled after : Moment) → AsksOneIn q before.world → (kept made : List (List ℕ)) (c : Other) (quiet : Bool) (r : Result Report Failure) → LeavesFor c [] [] [] → (Does c quiet before settled r → settled.world ≡ before.world) → (after.world ≡ before.world → StaysFor c [] before.world after.world) → kept ≡ [] → made ≡ kept → between ≡ before
    → q.asks [] [] before.world (Ok (Asked.other c)) → HeedsQuiet q.quiet c quiet → Does c quiet between settled r → Removes made settled after → IsOther q (Asked.other c) c before after r
question_done q before between settled after one kept made c quiet r leaves still stays none same at asks heeds does removes = record {
  listings = [];
  acts = [];
  between = before;
  settled = settled;
  found = is_found q before.world one [] (inl refl) [] before.world (Ok (Asked.other c)) asks;
  prepared = ([], sym (append-nil before.entries), leaves);
  quiet = quiet;
  quiet_is = heeds;
  done = subst (λ (m : Moment). Does c quiet m settled r) at does;
  cleared = cleared_so made [] settled after (same ∙ none) removes;
  untouched = λ es grown calm. stays (ap (λ (m : Moment). m.world) (removes_none made settled after (same ∙ none) removes) ∙ still (subst (λ (m : Moment). Does c quiet m settled r) at does));
}

-- ---- with a plan

module _ (q : Asking) (before opened settled : Moment) (listings : List Entry) (plan : Plan) (jobs : Option ℕ) (messages : List Bool) (kept made : List (List ℕ)) (none : kept ≡ [])
    (p : Ready q listings before opened kept made (Ok (Asked.run (outline_of plan jobs messages)))) (h : List Event) (v : Verdict) (d : IsDriven (start_with plan jobs opened) plan h v settled) where
  prepared : Gains (LeavesActs listings p.acts) before opened
  prepared = (listings ++ p.entries, p.grew ∙ append_assoc before.entries listings p.entries, leaves_behind listings p.acts p.entries p.leaves)

  module _ (middle after : Moment) (world : middle.world ≡ settled.world) (removes : Removes made middle after) where
    removes_so : Removes (folders_in p.acts) middle after
    removes_so = subst (λ fs. Removes fs middle after) (made_are kept made (folders_in p.acts) none p.folders) removes

    ends_well : v ≡ verdict.Well → middle.entries ≡ settled.entries → ∥ EndsWell listings p.acts plan jobs h before opened settled after ∥₁
    ends_well well silent = ∥∥₁_map d.kept (λ k. record {
      prepared = prepared;
      kept = k;
      closed = d.closed;
      well = (subst (λ x. IsVerdict (run_over plan jobs opened.entries) h x) well d.verdict).0;
      complete = d.complete well;
      cached = d.cached;
      skipped = d.skipped well;
      behind = behind_book (folders_in p.acts) (λ es. es ≡ []) settled middle after ([], silent ∙ sym (append-nil settled.entries), refl) world removes_so;
    })

    ends_ill : (quiet : Bool) (e : Error) → IsErrorFor plan.nodes messages h v (Some e) → IsToldBehind quiet e settled.entries middle.entries → ∥ EndsIll listings p.acts plan jobs messages quiet h e before opened settled after ∥₁
    ends_ill quiet e decided tells = ∥∥₁_map d.kept (λ k.
        let cause = error_caused (run_over plan jobs opened.entries) h k.gained k.legal k.matches messages v e d.verdict decided in
        record {
          prepared = prepared;
          kept = k;
          closed = d.closed;
          verdict = v;
          judged = d.verdict;
          decided = decided;
          cached = d.cached;
          nothing_left = d.nothing_left;
          caused = cause;
          favoured = only_memory_left plan.nodes h e k.gained cause;
          behind = behind_book (folders_in p.acts) (IsTold quiet e) settled middle after tells world removes_so;
        })

    -- what the end makes of a told world
    as_it_was : (first : List Entry) → middle.entries ≡ settled.entries ++ first → (es : List Entry) → after.entries ≡ before.entries ++ es → IsQuiet es → ∥ EndsAsItWas (folders_in p.acts) plan.nodes before.world after.world ∥₁
    as_it_was first told_so es grown calm = ∥∥₁_map d.kept (λ k.
        let c = clearing (folders_in p.acts) middle after removes_so in
        let rest = k.gained ++ (first ++ c.0) in
        let same : es ≡ listings ++ (p.entries ++ rest) =
        append_cancel_left before.entries es (listings ++ (p.entries ++ rest))
        (sym grown ∙ (c.1 ∙ (ap (λ l. l ++ c.0) (told_so ∙ ap (λ l. l ++ first) (k.grew ∙ ap (λ l. l ++ k.gained) p.grew))
        ∙ (append_assoc (((before.entries ++ listings) ++ p.entries) ++ k.gained) first c.0 ∙ (append_assoc ((before.entries ++ listings) ++ p.entries) k.gained (first ++ c.0) ∙ (append_assoc (before.entries ++ listings) p.entries rest ∙ append_assoc before.entries listings (p.entries ++ rest))))))) in
        let child : list_any is_started k.gained ≡ false = quiet_first is_started k.gained (first ++ c.0) (quiet_rest is_started p.entries rest (quiet_rest is_started listings (p.entries ++ rest) (ap (λ l. list_any is_started l) (sym same) ∙ calm.no_child))) in
        let alone : captures_in p.acts ≡ [] =
        no_children p.acts p.leaves.0 p.leaves.1
        (ap (λ l. list_any is_captured l) (sym p.leaves.2) ∙ quiet_first is_captured p.entries rest (quiet_rest is_captured listings (p.entries ++ rest) (ap (λ l. list_any is_captured l) (sym same) ∙ calm.no_capture))) in
        let still : list_any is_failed (p.entries ++ rest) ≡ false = quiet_rest is_failed listings (p.entries ++ rest) (ap (λ l. list_any is_failed l) (sym same) ∙ calm.no_failure) in
        let hush : list_any is_failed rest ≡ false = quiet_rest is_failed p.entries rest still in
        let touched : IsTouched plan.nodes opened.world settled.world =
        made_touches (run_of (start_with plan jobs opened)) h opened.world settled.world (k.made (nothing_started (run_of (start_with plan jobs opened)) h k.gained k.matches child) (quiet_first is_failed k.gained (first ++ c.0) hush)) in
        ends_as_it_was (folders_in p.acts) plan.nodes before.world opened.world settled.world after.world (λ empty. p.still empty alone (quiet_first is_failed p.entries rest still)) (p.alters plan.nodes alone (quiet_first is_failed p.entries rest still)) touched
        (λ empty. ap (λ (m : Moment). m.world) (removes_none (folders_in p.acts) middle after empty removes_so) ∙ world)
        (subst (λ x. IsAltered (folders_in p.acts) plan.nodes x after.world) world (c.3 plan.nodes (quiet_rest is_failed first c.0 (quiet_rest is_failed k.gained (first ++ c.0) hush)))))

    -- the run, from how it ended
    run_ended : AsksOneIn q before.world → ArePassed q.global listings → (quiet : Bool) → q.quiet quiet → (r : Result Report Failure) → HasPlan r plan
        → IfOk r (λ x. ∥ EndsWell listings p.acts plan jobs x.history before opened settled after ∥₁) → IfErr r (λ f. ∥ EndsIll listings p.acts plan jobs messages quiet f.history f.error before opened settled after ∥₁)
        → IsServed q listings p.acts jobs before opened after r → IfErr r (λ f. f.code ≡ exit_code f.error)
        → IfErr r (λ f. (es : List Entry) → after.entries ≡ before.entries ++ es → IsFavourable es → f.error ≡ error.NoMemory) → Failed listings p.acts jobs messages quiet r before opened settled after
        → (first : List Entry) → middle.entries ≡ settled.entries ++ first → IsRun q (outline_of plan jobs messages) before after r
    run_ended one passed quiet asks_quiet r has_plan ran failed complete code favoured fell first told_so = record {
      listings = listings;
      acts = p.acts;
      opened = opened;
      settled = settled;
      found = is_found q before.world one listings passed p.acts opened.world (Ok (Asked.run (outline_of plan jobs messages))) p.answers;
      quiet = quiet;
      quiet_is = asks_quiet;
      plan = plan;
      has_plan = has_plan;
      outlined = refl;
      ran = ran;
      failed = failed;
      complete = complete;
      code = code;
      favoured = favoured;
      faults = faults_rise listings p.acts jobs messages quiet r before opened settled after fell;
      misses = misses_rise listings p.acts jobs messages quiet r before opened settled after fell;
      untouched = as_it_was first told_so;
    }

-- a run without an error went well
went_well : (nodes : List PlanNode) (messages : List Bool) (shown : List Event) (v : Verdict) → IsErrorFor nodes messages shown v None → v ≡ verdict.Well
went_well nodes messages shown verdict.Well is = refl
went_well nodes messages shown (verdict.Failed n) is = absurd is
went_well nodes messages shown (verdict.Interrupted signal) is = absurd (let no : ⊥ = cc in no)
went_well nodes messages shown verdict.NoMemory is = absurd (let no : ⊥ = cc in no)

pub run_well : (q : Asking) (before opened settled after : Moment) → AsksOneIn q before.world → (kept made : List (List ℕ)) (jobs : Option ℕ) (messages : List Bool) (quiet : Bool) (plan driven : Plan) (h : List Event) (v : Verdict) (r : Result Report Failure) (nodes : List PlanNode) (heard : List Bool) (shown : List Event)
    → r ≡ Ok (record { plan = driven; history = h }) → IsDriven (start_with plan jobs opened) driven h v settled → kept ≡ [] → Prepares {A = Asked} q.global q.asks q.begins before opened kept made (Ok (Asked.run (outline_of plan jobs messages))) → q.quiet quiet
    → IsErrorFor nodes heard shown v None → Removes made settled after → IsRun q (outline_of plan jobs messages) before after r
run_well q before opened settled after one kept made jobs messages quiet plan driven h v r nodes heard shown is driven_so none (listings, passed, p) asks_quiet no_error removes =
    let d : IsDriven (start_with plan jobs opened) plan h v settled = subst (λ p. IsDriven (start_with plan jobs opened) p h v settled) driven_so.plan driven_so in
    let report : Report = record { plan = plan; history = h } in
    let same : r ≡ Ok report = is ∙ ap (λ p. let x : Report = record { plan = p; history = h } in Ok x) driven_so.plan in
    subst (λ x. IsRun q (outline_of plan jobs messages) before after x) (sym same)
    (run_ended q before opened settled listings plan jobs messages kept made none p h v d settled after refl removes one passed quiet asks_quiet (Ok report) refl
    (ends_well q before opened settled listings plan jobs messages kept made none p h v d settled after refl removes (went_well nodes heard shown v no_error) refl) tt
    (report_served q listings p.acts jobs before opened after report) tt tt tt [] (sym (append-nil settled.entries)))

pub run_ill : (q : Asking) (before opened settled middle after : Moment) → AsksOneIn q before.world → (kept made : List (List ℕ)) (jobs : Option ℕ) (messages : List Bool) (quiet : Bool) (plan driven : Plan) (h : List Event) (heard : List Bool) (shown : List Event) (v : Verdict) (e : Error) (r : Result Report Failure)
    → r ≡ Err (record { error = e; plan = Some driven; history = h; code = exit_code e }) → IsDriven (start_with plan jobs opened) driven h v settled → kept ≡ []
    → Prepares {A = Asked} q.global q.asks q.begins before opened kept made (Ok (Asked.run (outline_of plan jobs messages))) → q.quiet quiet → middle.world ≡ settled.world
    → IsErrorFor driven.nodes heard shown v (Some e) → heard ≡ messages → shown ≡ h → IsToldBehind quiet e settled.entries middle.entries → Removes made middle after → IsRun q (outline_of plan jobs messages) before after r
run_ill q before opened settled middle after one kept made jobs messages quiet plan driven h heard shown v e r is driven_so none (listings, passed, p) asks_quiet world error_is heard_is shown_is tells removes =
    let d : IsDriven (start_with plan jobs opened) plan h v settled = subst (λ p. IsDriven (start_with plan jobs opened) p h v settled) driven_so.plan driven_so in
    let f : Failure = record { error = e; plan = Some plan; history = h; code = exit_code e } in
    let same : r ≡ Err f = is ∙ ap (λ p. let x : Failure = record { error = e; plan = Some p; history = h; code = exit_code e } in Err x) driven_so.plan in
    let decided : IsErrorFor plan.nodes messages h v (Some e) = subst (λ k. IsErrorFor plan.nodes messages k v (Some e)) shown_is (subst (λ ms. IsErrorFor plan.nodes ms shown v (Some e)) heard_is (subst (λ p. IsErrorFor p.nodes heard shown v (Some e)) driven_so.plan error_is)) in
    let left = ends_ill q before opened settled listings plan jobs messages kept made none p h v d middle after world removes quiet e decided tells in
    subst (λ x. IsRun q (outline_of plan jobs messages) before after x) (sym same)
    (run_ended q before opened settled listings plan jobs messages kept made none p h v d middle after world removes one passed quiet asks_quiet (Err f) refl tt left
    (failure_served q listings p.acts jobs before opened after settled messages quiet f plan refl left) refl (memory_wanted listings p.acts jobs messages quiet before opened settled after (Err f) left plan refl) left tells.0 tells.1)
