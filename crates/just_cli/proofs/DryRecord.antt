-- What a dry run leaves in the record: texts that are printed, temporary folders, misses and failures.
use Rattle.std.proofs.Common.{◌≡◌, ◌++◌, inl, inr, ℕ, Bool, true, false, true≢false, List, [], ◌∷◌, Option, Some, None, Result, Ok, Err, refl, sym, ◌∙◌, ap, subst, append_assoc}
use Rattle.std.specs.Prelude.{◌||◌}
use Rattle.std.specs.List.{AllByRecursion}
use Rattle.std.proofs.lemmas.List.{append_cancel_left}
use Rattle.just_path_text.specs.declared.environ.Environ.{Environ}
use Rattle.just_host_record.specs.declared.entry.Entry.{Entry}
use Rattle.just_host_record.specs.declared.entry.Entry.TheVariants as entry
use Rattle.just_host_record.specs.declared.entry.HostFault.{HostFault}
use Rattle.just_host_record.specs.declared.entry.HostFault.TheVariants as fault
use Rattle.just_host_record.specs.declared.entry.Stream.TheVariants as stream
use Rattle.just_host_record.specs.Record.{refused, is_missed, is_failed}
use Rattle.just_host_record.specs.World.{World, Moment}
use Rattle.just_config.specs.declared.config.Config.{Config}
use Rattle.just_config_words.specs.declared.arguments.Arguments.{Arguments}
use Rattle.just_config_words.specs.declared.subcommand.Subcommand.{Subcommand}
use Rattle.just_config_words.specs.declared.words.Read.{Read}
use Rattle.just_config_words.specs.declared.words.Read.TheVariants as read
use Rattle.just_config_words.specs.Words.{Means}
use Rattle.just_exec_work.specs.declared.work.Command.{Command}
use Rattle.just_exec_work.specs.Steps.{commands_of}
use Rattle.just_sched_history.specs.declared.plan.Plan.{Plan}
use Rattle.just_sched_history.specs.declared.plan_node.PlanNode.{PlanNode}
use Rattle.just_sched_history.specs.Match.{printed_entries}
use Rattle.just_search.specs.Listing.{is_refused_listing}
use Rattle.just_exec.specs.declared.error.Error.{Error}
use Rattle.just_cli_plan.specs.Own.{call_at}
use Rattle.just_cli_plan.specs.Pairs.{refused_in}
use Rattle.just_cli_texts.specs.Kinds.{kind_of, reads_justfile}
use Rattle.just_cli_texts.specs.declared.printed.Printed.{Printed}
use Rattle.just_cli_children.specs.DryRuns.{echoed, told_of, told_of_all, Tells}
use Rattle.just_cli.specs.declared.ended.Failure.{Failure}
use Rattle.just_cli.specs.declared.ended.Report.{Report}
use Rattle.just_cli.specs.Acts.{Act, AreActs, Behind, BeginsBehind}
use Rattle.just_cli.specs.Answered.{asked_by, RefusedFor}
use Rattle.just_cli.specs.Asked.{Asked, as_reply, Asks, AsksAs, AsksBy, AsksAt, Begins, BeginsAs, Decides, EnvironGiven, Serves}
use Rattle.just_cli.specs.Childless.{AreFolders}
use Rattle.just_cli.specs.Dry.{IsPlanTold, IsPlanUntold}
use Rattle.just_cli.specs.DryRecords.{IsDryRead, AskDry, runs_nothing, DryRunsRunNothing}
use Rattle.just_cli.specs.Preparing.{LeavesActs, EndsActs}
use Rattle.just_cli.specs.Printing.{IsPlanless, IsPrinted as IsTextPrinted, IsUnprinted, IsUnprintedBy, TellsError, told_line, told_beside}
use Rattle.just_cli.specs.Record.{AreRefusals, EndsBehind, Gains, IsTold}
use Rattle.just_cli.specs.Replies.{Reply}
use Rattle.just_cli.specs.Request.{ArePassed}
use Rattle.just_cli.specs.Run.{Ends, EndsCleared}
use Rattle.just_cli.specs.Words.{WordsRequest, ArgumentsRequest, ConfigRequest, LocatedRequest}
use Rattle.just_cli.proofs.FolderActs.{none_made, made_both, runs_no_child}

-- ---- entries

abbrev AreStill : List Entry → Type 0
AreStill es = AllByRecursion (λ e. runs_nothing e ≡ true) es

still_append : (xs ys : List Entry) → AreStill xs → AreStill ys → AreStill (xs ++ ys)
still_append [] ys a b = b
still_append (x ∷ xs) ys a b = (a.0, still_append xs ys a.1 b)

still_front : (xs ys : List Entry) → AreStill (xs ++ ys) → AreStill xs
still_front [] ys all = tt
still_front (x ∷ xs) ys all = (all.0, still_front xs ys all.1)

as_still : (es fs : List Entry) → es ≡ fs → AreStill fs → AreStill es
as_still es fs is still = subst (λ l. AreStill l) (sym is) still

refused_still : (path : List ℕ) (io : HostFault) → AreStill (refused path io)
refused_still path (fault.Missed m) = (refl, tt)
refused_still path (fault.Failed c) = (refl, tt)
refused_still path fault.NoMemory = tt

call_still : (o : Option (List ℕ × HostFault)) → AreStill (refused_in o)
call_still None = tt
call_still (Some x) = refused_still x.0 x.1

printed_still : (text : List ℕ) → AreStill (printed_entries text)
printed_still [] = tt
printed_still (b ∷ bs) = (refl, tt)

echoed_still : (cs : List Command) → AreStill (echoed cs)
echoed_still [] = tt
echoed_still (c ∷ cs) = still_append (printed_entries c.echo) (echoed cs) (printed_still c.echo) (echoed_still cs)

told_still : (xs : List PlanNode) → AreStill (told_of_all xs)
told_still [] = tt
told_still (x ∷ xs) = still_append (told_of x) (told_of_all xs) (still_append (printed_entries x.banner) (echoed (commands_of x.work)) (printed_still x.banner) (echoed_still (commands_of x.work))) (told_still xs)

line_still : (quiet : Bool) (line : List ℕ) → AreStill (told_line quiet line)
line_still true line = tt
line_still false line = (refl, tt)

beside_still : (quiet : Bool) (o : Option (List ℕ)) → AreStill (told_beside quiet o)
beside_still quiet None = tt
beside_still quiet (Some line) = line_still quiet line

acts_still : (acts : List Act) (es : List Entry) → AreActs acts es → AreFolders acts → AreStill es
acts_still acts es AreActs.none folders = tt
acts_still acts es (AreActs.a_miss path m some rest are) folders = (refl, acts_still some rest are folders)
acts_still acts es (AreActs.an_act (Act.made folder) some rest are) folders = (refl, acts_still some rest are folders)
acts_still acts es (AreActs.an_act (Act.captured c) some rest are) folders = absurd folders
acts_still acts es (AreActs.an_act (Act.uncaptured program) some rest are) folders = absurd folders

listing_still : (e : Entry) → is_refused_listing e ≡ true → runs_nothing e ≡ true
listing_still (entry.Missed path m) is = refl
listing_still (entry.Failed c) is = refl
listing_still (entry.Strayed a b) is = refl
listing_still (entry.Printed stream text) is = refl
listing_still (entry.Made folder) is = refl
listing_still (entry.Asked a b) is = is
listing_still (entry.Summed a b) is = is
listing_still (entry.Probed a b c) is = is
listing_still (entry.Checked a b) is = is
listing_still (entry.Saved a) is = is
listing_still (entry.Started a b) is = is
listing_still (entry.Ended a b) is = is
listing_still (entry.Captured a b c d) is = is
listing_still (entry.Signalled a) is = is

refusal_still : (e : Entry) → (is_missed e || is_failed e) ≡ true → runs_nothing e ≡ true
refusal_still (entry.Missed path m) is = refl
refusal_still (entry.Failed c) is = refl
refusal_still (entry.Strayed a b) is = refl
refusal_still (entry.Printed stream text) is = refl
refusal_still (entry.Made folder) is = refl
refusal_still (entry.Asked a b) is = is
refusal_still (entry.Summed a b) is = is
refusal_still (entry.Probed a b c) is = is
refusal_still (entry.Checked a b) is = is
refusal_still (entry.Saved a) is = is
refusal_still (entry.Started a b) is = is
refusal_still (entry.Ended a b) is = is
refusal_still (entry.Captured a b c d) is = is
refusal_still (entry.Signalled a) is = is

listings_still : (es : List Entry) → AllByRecursion (λ e. is_refused_listing e ≡ true) es → AreStill es
listings_still [] all = tt
listings_still (e ∷ es) all = (listing_still e all.0, listings_still es all.1)

refusals_still : (es : List Entry) → AreRefusals es → AreStill es
refusals_still [] all = tt
refusals_still (e ∷ es) all = (refusal_still e all.0, refusals_still es all.1)

passed_still : {global : Type 0} (listings : List Entry) → ArePassed global listings → AreStill listings
passed_still listings (inl none) = as_still listings [] none tt
passed_still listings (inr (asked, all)) = listings_still listings all

error_still : (quiet : Bool) (e : Error) (es : List Entry) → IsTold quiet e es → AreStill es
error_still quiet e es (inl (tells, inl is)) = as_still es _ is (refl, tt)
error_still quiet e es (inl (tells, inr (inl is))) = as_still es _ is (refl, tt)
error_still quiet e es (inl (tells, inr (inr is))) = as_still es [] is tt
error_still quiet e es (inr (never, is)) = as_still es [] is tt

-- ---- moments

abbrev Stays : Moment → Moment → Type 0
Stays before after = Gains AreStill before after

stays_then : (a b c : Moment) → Stays a b → Stays b c → Stays a c
stays_then a b c (xs, grew, still) (ys, more, too) = (xs ++ ys, more ∙ (ap (λ l. l ++ ys) grew ∙ append_assoc a.entries xs ys), still_append xs ys still too)

stays_by : (es : List Entry) (a b : Moment) → b.entries ≡ a.entries ++ es → Stays a b → AreStill es
stays_by es a b is (xs, grew, still) = as_still es xs (append_cancel_left a.entries es xs (sym is ∙ grew)) still

leaves_still : (listings : List Entry) (acts : List Act) (es : List Entry) → AreStill listings → AreFolders acts → LeavesActs listings acts es → AreStill es
leaves_still listings acts es passed folders (among, are, is, run) = as_still es (listings ++ among) is (still_append listings among passed (acts_still acts among are folders))

ends_still : (listings : List Entry) (acts : List Act) (e : Error) (es : List Entry) → AreStill listings → AreFolders acts → EndsActs listings acts e es → AreStill es
ends_still listings acts e es passed folders (among, path, are, is, program) =
    as_still es (listings ++ (among ++ refused_in (call_at path e))) is
    (still_append listings (among ++ refused_in (call_at path e)) passed (still_append among (refused_in (call_at path e)) (acts_still acts among are folders) (call_still (call_at path e))))

tells_error_still : (quiet : Bool) (e : Error) (a b : Moment) → TellsError quiet e a.entries b.entries → Stays a b
tells_error_still quiet e a b (told, grew, is) = (told, grew, error_still quiet e told is)

cleared_still : (acts : List Act) (a b : Moment) → EndsCleared acts a b → Stays a b
cleared_still acts a b ((es, grew, are), removes) = (es, grew, refusals_still es are)

behind_still : (folders : List (List ℕ)) (quiet : Bool) (e : Error) (a b : Moment) → EndsBehind folders (IsTold quiet e) a b → Stays a b
behind_still folders quiet e a b k = (k.first ++ k.refusals, k.grew, still_append k.first k.refusals (error_still quiet e k.first k.told_error) (refusals_still k.refusals k.are))

-- a plan that is told, or isn't
tells_still : (xs : List PlanNode) (a b : Moment) (r : Result (Unit {0}) Error) → Tells (told_of_all xs) a b r → Stays a b
tells_still xs a b r (Tells.all_told grew world is) = (told_of_all xs, grew, told_still xs)
tells_still xs a b r (Tells.cut_short e cut world is) =
    (cut.front ++ refused_in (call_at [] e), cut.grew, still_append cut.front (refused_in (call_at [] e)) (still_front cut.front (cut.next ∷ cut.behind) (subst (λ l. AreStill l) cut.cut (told_still xs))) (call_still (call_at [] e)))

module _ (quiet : Bool) (a b : Moment) where
  untold_still : (p : Plan) (e : Error) → IsPlanUntold p quiet a b e → Stays a b
  untold_still p e (now, tells, told, world) = stays_then a now b (tells_still p.nodes a now (Err e) tells) (tells_error_still quiet e now b told)

  plan_still : (p : Plan) (r : Result Report Failure) → IsPlanTold p quiet a b r → Stays a b
  plan_still p (Ok x) k = tells_still p.nodes a b (Ok tt) k.told.2
  plan_still p (Err f) k =
      let both : IsPlanless f × IsPlanUntold p quiet a b f.error = k.untold in
      let (planless, untold) = both in untold_still p f.error untold

  -- a text that is printed, or isn't
  unprinted_still : (p : Printed) (e : Error) (now : List Entry) → IsUnprintedBy p quiet e a.entries now → (es : List Entry) × (now ≡ a.entries ++ es) × AreStill es
  unprinted_still p e now (IsUnprintedBy.no_text why grew) = (refused_in (call_at [] e), grew, call_still (call_at [] e))
  unprinted_still p e now (IsUnprintedBy.no_line line told loud why grew) = (entry.Printed stream.Out p.text ∷ refused_in (call_at [] e), grew, (refl, call_still (call_at [] e)))

  unshown_still : (p : Printed) (e : Error) → IsUnprinted p quiet e a.entries b.entries → Stays a b
  unshown_still p e (now, by, (told, behind, is)) =
      let (es, grew, still) = unprinted_still p e now by in
      (es ++ told, behind ∙ (ap (λ l. l ++ told) grew ∙ append_assoc a.entries es told), still_append es told still (error_still quiet e told is))

  text_still : (p : Printed) (r : Result Report Failure) → IsTextPrinted p quiet a b r → Stays a b
  text_still p (Ok x) k = (entry.Printed stream.Out p.text ∷ told_beside quiet p.told, k.printed.1, (refl, beside_still quiet p.told))
  text_still p (Err f) k =
      let both : IsPlanless f × IsUnprinted p quiet f.error a.entries b.entries = k.unprinted in
      let (planless, unprinted) = both in unshown_still p f.error unprinted

-- ---- what is asked for

-- neither a run nor what is no run: a listing, a plan that is told, or a refusal
abbrev IsNoRun : Result Asked Error → Type 0
IsNoRun (Ok (Asked.other c)) = ⊥
IsNoRun (Ok (Asked.listing p)) = Unit {0}
IsNoRun (Ok (Asked.run o)) = ⊥
IsNoRun (Ok (Asked.dry o)) = Unit {0}
IsNoRun (Err e) = Unit {0}

refused_no_run : (r : Result Asked Error) (e : Error) → r ≡ Err e → IsNoRun r
refused_no_run r e is = subst (λ (z : Result Asked Error). IsNoRun z) (sym is) tt

reply_no_run : (x : Result Reply Error) → IsNoRun (as_reply true x)
reply_no_run (Ok (Reply.lists p)) = tt
reply_no_run (Ok (Reply.runs o)) = tt
reply_no_run (Err e) = tt

asks_no_run : (told after : Option World) (acts : List Act) (q : LocatedRequest) (r : Result Asked Error) → q.config.dry_run ≡ true → q.config.subcommand ≡ None → AsksAt told acts after q r → IsNoRun r
asks_no_run told after acts q r dry none asks =
    let runs = subst (λ (s : Option Subcommand). AsksBy (kind_of s) told acts after q r) none asks in
    let is : r ≡ as_reply true runs.0 = runs.2 ∙ ap (λ (b : Bool). as_reply b runs.0) dry in
    subst (λ (z : Result Asked Error). IsNoRun z) (sym is) (reply_no_run runs.0)

module _ (listings : List Entry) (told after : Option World) where
  decides_no_run : (acts : List Act) (c : ConfigRequest) (r : Result Asked Error) → c.config.dry_run ≡ true → c.config.subcommand ≡ None → Decides listings told acts after c r → IsNoRun r
  decides_no_run acts c r dry none (Decides.reads_none alone empty asks) = absurd (true≢false (sym (ap (λ (s : Option Subcommand). reads_justfile (kind_of s)) none) ∙ alone))
  decides_no_run acts c r dry none (Decides.reads_one reads (Behind.refused e finds is)) = refused_no_run r e is
  decides_no_run acts c r dry none (Decides.reads_one reads (Behind.both q front rest between (empty, still, finds) asks split)) =
      asks_no_run between after rest q r (ap (λ (k : Config). k.dry_run) finds.0 ∙ dry) (ap (λ (k : Config). k.subcommand) finds.0 ∙ none) asks

serves_no_run : (listings : List Entry) (told after : Option World) (acts : List Act) (a : ArgumentsRequest) (r : Result Asked Error) → a.arguments.dry_run ≡ true → a.arguments.subcommand ≡ None → Serves listings told acts after a r → IsNoRun r
serves_no_run listings told after acts a r dry none (Behind.refused e finds is) = refused_no_run r e is
serves_no_run listings told after acts a r dry none (Behind.both f front rest between finds (Behind.refused e configures is) split) = refused_no_run r e is
serves_no_run listings told after acts a r dry none (Behind.both f front rest between (empty, still, finds) (Behind.both c fore hind among (nothing, same, (given, is)) decides cut) split) =
    decides_no_run listings among after hind c r (ap (λ (k : ConfigRequest). k.config.dry_run) is ∙ (ap (λ (x : Arguments). x.dry_run) finds.0 ∙ dry)) (ap (λ (k : ConfigRequest). k.config.subcommand) is ∙ (ap (λ (x : Arguments). x.subcommand) finds.0 ∙ none)) decides

-- by arguments, however they are read
module _ (listings : List Entry) (environ : Environ) (told after : Option World) (acts : List Act) where
  read_dry : (m : Read) (r : Result Asked Error) → IsDryRead m → AsksAs listings m environ told acts after r → AreFolders acts × IsNoRun r
  read_dry read.Help r dry asks = absurd dry
  read_dry read.Version r dry asks = absurd dry
  read_dry (read.Go a) r dry serves =
      let q : ArgumentsRequest = record { arguments = a; environ = environ } in ((runs_no_child q listings told after acts dry.0 dry.1).0 r serves, serves_no_run listings told after acts q r dry.0 dry.1 serves)

  begun_dry : (m : Read) → IsDryRead m → BeginsAs listings m environ told acts after → AreFolders acts
  begun_dry read.Help dry begins = absurd dry
  begun_dry read.Version dry begins = absurd dry
  begun_dry (read.Go a) dry begins =
      let q : ArgumentsRequest = record { arguments = a; environ = environ } in (runs_no_child q listings told after acts dry.0 dry.1).1 begins

module _ (words : List (List ℕ)) (told : Option World) (ask : AskDry words told) where
  -- what the words are read as
  is_dry : (w : WordsRequest) (m : Read) → w.words ≡ words → EnvironGiven told (Ok w.environ) → Means w.words w.environ.pairs (Ok m) → IsDryRead m
  is_dry w m same given means = ask w.environ m given (subst (λ (ws : List (List ℕ)). Means ws w.environ.pairs (Ok m)) same means)

  asks_dry : (listings : List Entry) (acts : List Act) (after : Option World) (r : Result Asked Error) → Asks words told listings acts after r → AreFolders acts × IsNoRun r
  asks_dry listings acts after r (Behind.refused e (empty, still, finds) is) = (none_made acts empty, refused_no_run r e is)
  asks_dry listings acts after r (Behind.both w front rest between (empty, still, finds) (Behind.refused e (nothing, same, reads) is) split) = (made_both acts front rest split (none_made front empty) (none_made rest nothing), refused_no_run r e is)
  asks_dry listings acts after r (Behind.both w front rest between (empty, still, (as_given, given)) (Behind.both q fore hind among (nothing, same, (means, environ)) asks cut) split) =
      let both = read_dry listings q.environ among after hind q.meaning r (is_dry w q.meaning as_given given means) asks in
      (made_both acts front rest split (none_made front empty) (made_both rest fore hind cut (none_made fore nothing) both.0), both.1)

  begins_dry : (listings : List Entry) (acts : List Act) (after : Option World) → Begins words told listings acts after → AreFolders acts
  begins_dry listings acts after (BeginsBehind.at_first (empty, still)) = none_made acts empty
  begins_dry listings acts after (BeginsBehind.at_second w front rest between (empty, still, finds) (BeginsBehind.at_first (nothing, same)) split) = made_both acts front rest split (none_made front empty) (none_made rest nothing)
  begins_dry listings acts after (BeginsBehind.at_second w front rest between (empty, still, (as_given, given)) (BeginsBehind.at_second q fore hind among (nothing, same, (means, environ)) begins cut) split) =
      made_both acts front rest split (none_made front empty) (made_both rest fore hind cut (none_made fore nothing) (begun_dry listings q.environ among after hind q.meaning (is_dry w q.meaning as_given given means) begins))

  refused_dry : (listings : List Entry) (acts : List Act) (after : Option World) (e : Error) → RefusedFor (asked_by words told) listings acts after e → AreFolders acts
  refused_dry listings acts after e (inl asks) = (asks_dry listings acts after (Err e) asks).0
  refused_dry listings acts after e (inr (memory, begins)) = begins_dry listings acts after begins

-- ---- how words end

module _ (words : List (List ℕ)) (before after : Moment) (result : Result Report Failure) (ask : AskDry words before.world) where
  ends_dry : (r : Result Asked Error) → Ends (asked_by words before.world) before after result r → Stays before after
  ends_dry (Ok (Asked.other c)) k = absurd (asks_dry words before.world ask k.listings k.acts k.between.world (Ok (Asked.other c)) k.found.asked).1
  ends_dry (Ok (Asked.run o)) k = absurd (asks_dry words before.world ask k.listings k.acts k.opened.world (Ok (Asked.run o)) k.found.asked).1
  ends_dry (Ok (Asked.listing p)) k =
      let folders = (asks_dry words before.world ask k.listings k.acts k.between.world (Ok (Asked.listing p)) k.found.asked).0 in
      let (es, grew, leaves) = k.prepared in
      stays_then before k.between after (es, grew, leaves_still k.listings k.acts es (passed_still k.listings k.found.passed) folders leaves)
      (stays_then k.between k.settled after (text_still k.quiet k.between k.settled p result k.done) (cleared_still k.acts k.settled after k.cleared))
  ends_dry (Ok (Asked.dry o)) k =
      let folders = (asks_dry words before.world ask k.listings k.acts k.between.world (Ok (Asked.dry o)) k.found.asked).0 in
      let (es, grew, leaves) = k.prepared in
      stays_then before k.between after (es, grew, leaves_still k.listings k.acts es (passed_still k.listings k.found.passed) folders leaves)
      (stays_then k.between k.settled after (plan_still k.quiet k.between k.settled k.plan result k.told) (cleared_still k.acts k.settled after k.cleared))
  ends_dry (Err e) k =
      let folders = refused_dry words before.world ask k.listings k.acts k.between.world e k.found.asked in
      let (es, grew, ends) = k.left.prepared in
      stays_then before k.between after (es, grew, ends_still k.listings k.acts e es (passed_still k.listings k.found.passed) folders ends) (behind_still _ k.quiet e k.between after k.left.behind)

pub dry_runs_run_nothing : DryRunsRunNothing
dry_runs_run_nothing words before after result es ask ended grew = stays_by es before after grew (ends_dry words before after result ask ended.asked ended.ends)
