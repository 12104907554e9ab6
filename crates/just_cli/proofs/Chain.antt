-- The chain of a request over a host, from what its calls answered.
use Rattle.std.proofs.Common.{◌≡◌, ◌++◌, ◌∙◌, inl, inr, ℕ, Bool, true, false, true≢false, List, [], ◌∷◌, map, Option, Some, None, Result, Ok, Err, refl, sym, ap, subst, append_assoc, append-nil}
use Rattle.std.specs.Prelude.{is_some}
use Rattle.just_path_text.specs.declared.environ.Environ.{Environ}
use Rattle.just_host_record.specs.World.{World, Moment}
use Rattle.just_host_record.specs.declared.entry.Entry.{Entry}
use Rattle.just_lang_types.specs.declared.source.Source.{Source}
use Rattle.just_env.specs.declared.search_error.SearchError.{SearchError}
use Rattle.just_search_load.specs.Loads.{Loads}
use Rattle.just_config_words.specs.declared.arguments.Arguments.{Arguments}
use Rattle.just_config_words.specs.declared.words.Read.{Read}
use Rattle.just_config_words.specs.declared.words.Read.TheVariants as read
use Rattle.just_config_words.specs.Words.{Means}
use Rattle.just_config.specs.declared.config.Config.{Config}
use Rattle.just_search.specs.declared.location.Location.{Location}
use Rattle.just_exec.specs.Refusals.{error_of_search}
use Rattle.just_exec.specs.declared.error.Error.{Error}
use Rattle.just_cli_plan.specs.declared.wanted.Wanted.{Wanted}
use Rattle.just_cli_plan.specs.Own.{OrMemory, uncaptured_by, is_uncaptured}
use Rattle.just_lang_types.specs.declared.project.Justfile.{Justfile}
use Rattle.just_lang_types.specs.declared.scope.DotenvOf.{DotenvOf}
use Rattle.just_lang_types.specs.Modules.{AreModules, settings_of}
use Rattle.std.specs.List.{list_any}
use Rattle.just_host_record.specs.Record.{is_failed}
use Rattle.just_host_record.specs.declared.entry.HostFault.{HostFault}
use Rattle.just_host_record.specs.declared.entry.HostFault.TheVariants as fault
use Rattle.just_env.specs.declared.env_error.OutputError.TheVariants as output
use Rattle.just_env.specs.Captures.{Capture, told_behind, AreAmongMisses}
use Rattle.just_env.specs.Loads.{IsShellOf}
use Rattle.just_exec.specs.declared.error.Error.TheVariants as error
use Rattle.just_cli_plan.specs.Pairs.{LoadsPairs, BeginsLoading, Runs, Leaves, ErrorLeaves, entries_of as entries_in}
use Rattle.just_cli_children.specs.Faults.{entries_of}
use Rattle.just_cli_plan.specs.Request.{SourcesRequest, LoadedRequest, FindsProject}
use Rattle.just_cli_texts.specs.Laid.{LaidSources, LaidRequest, FindsLaid}
use Rattle.just_cli.specs.Acts.{Act, AreActs, Looks, folders_in, captures_in, uncaptured_in, Behind, BeginsBehind}
use Rattle.just_cli.specs.Preparing.{AreMisses, EndsWith, IsProgram, Answers, Performs}
use Rattle.just_cli.specs.Replies.{Reply}
use Rattle.just_cli.specs.Choosing.{AreActsBy}
use Rattle.just_cli.specs.Taken.{TakesWanted, BeginsIt, PerformsProject, PerformsReply}
use Rattle.just_cli.specs.declared.task.Other.TheVariants as no_run
use Rattle.just_cli.specs.Asked.{Asked, Decides, Serves, EnvironGiven, FolderGiven, Asks, AsksGlobal, BeginsServes, Begins as BeginsWords}
use Rattle.just_cli.specs.Request.{acts_of_fault, AreActsOf, FindsProjectOf, FindsProjectAt, WithModules, LoadsPairs as LoadsStep, RepliesTo, AnswersAt, BeginsProject, BeginsAt}
use Rattle.just_cli.specs.Tasks.{BeginsDecides}
use Rattle.just_cli.proofs.Acting.{no_fault}
use Rattle.just_cli.proofs.Altering.{altered_same, quiet_rest}
use Rattle.just_cli.proofs.Prepared.{acts_append, left_nothing, performs_as, performs_lost, performs_looking, performs_then, performs_behind}
use Rattle.just_cli_plan.specs.Steps.{stops, goes_on}
use Rattle.just_cli.specs.Words.{WordsRequest, ReadRequest, ArgumentsRequest, FolderRequest, ConfigRequest, LocatedRequest, JustfileRequest, ReadsWords, Configures, BeginsIn}

-- ---- what is known

abbrev pub words_in : List (List ℕ) → Environ → WordsRequest
words_in words environ = record { words = words; environ = environ }

abbrev pub read_in : Read → Environ → ReadRequest
read_in m environ = record { meaning = m; environ = environ }

abbrev pub arguments_in : Arguments → Environ → ArgumentsRequest
arguments_in a environ = record { arguments = a; environ = environ }

abbrev pub folder_in : Arguments → Environ → List ℕ → FolderRequest
folder_in a environ folder = record { arguments = a; environ = environ; folder = folder }

abbrev pub config_in : Config → Environ → ConfigRequest
config_in config environ = record { config = config; environ = environ }

abbrev pub located_in : Config → Environ → Location → LocatedRequest
located_in config environ location = record { config = config; environ = environ; location = location }

abbrev justfile_in : Wanted → Environ → List ℕ → JustfileRequest
justfile_in wanted environ justfile = record { wanted = wanted; environ = environ; justfile = justfile }

abbrev pub sources_in : Wanted → Environ → List Source → SourcesRequest
sources_in wanted environ sources = record { wanted = wanted; environ = environ; sources = sources }

abbrev pub laid_in : Wanted → Environ → LaidSources → LaidRequest
laid_in wanted environ l = record { wanted = wanted; environ = environ; laid = l }

abbrev loaded_in : Wanted → Environ → Justfile → List Justfile → List DotenvOf → LoadedRequest
loaded_in wanted environ j modules dotenv = record { wanted = wanted; environ = environ; justfile = j; modules = modules; dotenv = dotenv }

-- ---- the project of a justfile

module _ (told : Option World) (wanted : Wanted) (environ : Environ) (justfile : List ℕ) where
  -- it isn't loaded
  pub no_sources : (e : Error) → OrMemory (λ x. (f : SearchError) × Loads told environ.pairs [] (justfile ∷ []) (Err f) × (x ≡ error_of_search f)) e → OrMemory (λ x. FindsProjectOf told (justfile_in wanted environ justfile) (Err x)) e
  no_sources e (inl wants) = inl wants
  no_sources e (inr lost) = inr (stops e lost refl)

  module _ (sources : List Source) (loads : Loads told environ.pairs [] (justfile ∷ []) (Ok sources)) where
    -- what its sources make is the answer
    sources_make : (r : Result LaidRequest Error) → FindsLaid (sources_in wanted environ sources) r → FindsProjectOf told (justfile_in wanted environ justfile) r
    sources_make r finds = goes_on (sources_in wanted environ sources) (refl, refl, loads) finds

    pub project_made : (l : LaidSources) → FindsLaid (sources_in wanted environ sources) (Ok (laid_in wanted environ l)) → FindsProjectOf told (justfile_in wanted environ justfile) (Ok (laid_in wanted environ l))
    project_made l finds = sources_make (Ok (laid_in wanted environ l)) finds

    pub project_unmade : (e : Error) → OrMemory (λ x. FindsProject (sources_in wanted environ sources) (Err x)) e → OrMemory (λ x. FindsProjectOf told (justfile_in wanted environ justfile) (Err x)) e
    project_unmade e (inl wants) = inl wants
    project_unmade e (inr lost) = inr (sources_make (Err e) lost)

-- ---- behind the project

-- entries of children that were run are those of acts
children_acts : (cs : List Capture) (es : List Entry) → AreAmongMisses cs es → AreActs (map Act.captured cs) es
children_acts cs es AreAmongMisses.none = AreActs.none
children_acts cs es (AreAmongMisses.a_miss path m some rest are) = AreActs.a_miss path m (map Act.captured some) rest (children_acts some rest are)
children_acts cs es (AreAmongMisses.a_child c some rest are) = AreActs.an_act (Act.captured c) (map Act.captured some) rest (children_acts some rest are)

no_folders : (cs : List Capture) → folders_in (map Act.captured cs) ≡ []
no_folders [] = refl
no_folders (c ∷ cs) = no_folders cs

all_captured : (cs : List Capture) → captures_in (map Act.captured cs) ≡ cs
all_captured [] = refl
all_captured (c ∷ cs) = ap (λ (l : List Capture). c ∷ l) (all_captured cs)

all_run : (cs : List Capture) → uncaptured_in (map Act.captured cs) ≡ []
all_run [] = refl
all_run (c ∷ cs) = all_run cs

-- the same behind which one couldn't be run to its end
module _ (program : List ℕ) where
  fault_acts : (cs : List Capture) (o : Option HostFault) (es : List Entry) → AreAmongMisses cs es → AreActs (map Act.captured cs ++ acts_of_fault program o) es
  fault_acts cs None es are = subst (λ l. AreActs l es) (sym (append-nil (map Act.captured cs))) (children_acts cs es are)
  fault_acts cs (Some io) es are =
      subst (λ l. AreActs (map Act.captured cs ++ Act.uncaptured program ∷ []) l) (append-nil es) (acts_append (map Act.captured cs) (Act.uncaptured program ∷ []) es [] (children_acts cs es are) (AreActs.an_act (Act.uncaptured program) [] [] AreActs.none))

  fault_folders : (cs : List Capture) (o : Option HostFault) → folders_in (map Act.captured cs ++ acts_of_fault program o) ≡ []
  fault_folders [] None = refl
  fault_folders [] (Some io) = refl
  fault_folders (c ∷ cs) o = fault_folders cs o

  fault_captured : (cs : List Capture) (o : Option HostFault) → captures_in (map Act.captured cs ++ acts_of_fault program o) ≡ cs
  fault_captured [] None = refl
  fault_captured [] (Some io) = refl
  fault_captured (c ∷ cs) o = ap (λ (l : List Capture). c ∷ l) (fault_captured cs o)

  fault_program : (cs : List Capture) (e : Error) (o : Option HostFault) → uncaptured_by e ≡ o → IsProgram (map Act.captured cs ++ acts_of_fault program o) e program
  fault_program [] e None is = inl refl
  fault_program [] e (Some io) is = inr (ap (λ (x : Option HostFault). is_some x) is, refl)
  fault_program (c ∷ cs) e o is = fault_program cs e o is

-- a refusal that leaves no failure in the record leaves the world
error_still : (old new : Option World) (path : List ℕ) (e : Error) → ErrorLeaves old new e → list_any is_failed (entries_in path e) ≡ false → new ≡ old
error_still old new path (error.DotenvCommand command (output.Io (fault.Missed m))) left quiet = left
error_still old new path (error.DotenvCommand command (output.Io (fault.Failed c))) left quiet = absurd (true≢false quiet)
error_still old new path (error.DotenvCommand command (output.Io fault.NoMemory)) left quiet = left
error_still old new path (error.ChooserInvoke shell arguments chooser (fault.Missed m)) left quiet = left
error_still old new path (error.ChooserInvoke shell arguments chooser (fault.Failed c)) left quiet = absurd (true≢false quiet)
error_still old new path (error.ChooserInvoke shell arguments chooser fault.NoMemory) left quiet = left
error_still old new path (error.ChooserRead chooser (fault.Missed m)) left quiet = left
error_still old new path (error.ChooserRead chooser (fault.Failed c)) left quiet = absurd (true≢false quiet)
error_still old new path (error.ChooserRead chooser fault.NoMemory) left quiet = left
error_still old new path (error.ChooserWrite chooser (fault.Missed m)) left quiet = left
error_still old new path (error.ChooserWrite chooser (fault.Failed c)) left quiet = absurd (true≢false quiet)
error_still old new path (error.ChooserWrite chooser fault.NoMemory) left quiet = left
error_still old new path _ left quiet = left

-- and so does one that doesn't tell that a child wasn't run to its end
captured_still : (old new : Option World) (e : Error) → is_uncaptured e ≡ false → ErrorLeaves old new e → new ≡ old
captured_still old new (error.DotenvCommand command (output.Io io)) captured left = absurd (true≢false captured)
captured_still old new (error.ChooserInvoke shell arguments chooser io) captured left = absurd (true≢false captured)
captured_still old new (error.ChooserRead chooser io) captured left = absurd (true≢false captured)
captured_still old new (error.ChooserWrite chooser io) captured left = absurd (true≢false captured)
captured_still old new _ captured left = left

-- of what the answer is that stands behind them, `looks` says
module _ {B : Type 0} (looks : LoadedRequest → Result B Error → Type 0) (before after : Moment) (q : LaidRequest) where
  abbrev wanted : Wanted
  wanted = q.wanted

  abbrev environ : Environ
  environ = q.environ

  abbrev j : Justfile
  j = q.laid.justfile

  abbrev Begins : List Act → Option World → Type 0
  Begins acts world = BeginsIt q before.world acts world

  -- the answer by the list of the modules, and a part of a preparation that gives it
  abbrev GivesIt : List Act → Option World → Result B Error → Type 0
  GivesIt acts world r = WithModules (Behind LoadsStep (Looks (λ now. looks))) before.world acts world q r

  abbrev pub PerformsIt : Result B Error → Type 0
  PerformsIt r = Performs GivesIt Begins before after [] [] r

  -- the pairs, as a part of a preparation
  abbrev LoadsIt : List Act → Option World → Result (List DotenvOf) Error → Type 0
  LoadsIt acts world r = (cs : List Capture) × AreActsOf wanted.flags j cs r acts × LoadsPairs before.world wanted environ j cs r × Leaves before.world cs world r

  -- that pairs were loaded, or not
  abbrev Loaded : Result (List DotenvOf) Error → Type 0
  Loaded r = Runs {A = List DotenvOf} (LoadsPairs before.world wanted environ j) (BeginsLoading before.world wanted environ j) (IsShellOf wanted.flags j) before after r

  -- where no child was run the world is as it was
  same_behind : (cs : List Capture) → cs ≡ [] → told_behind before.world cs ≡ before.world
  same_behind cs none = ap (λ (l : List Capture). told_behind before.world l) none

  pairs_part : (pairs : List DotenvOf) → Loaded (Ok pairs) → Performs LoadsIt Begins before after [] [] (Ok pairs)
  pairs_part pairs (cs, loads, (es, are, grew), left, begun) = record {
    acts = map Act.captured cs;
    entries = es;
    grew = grew;
    leaves = (es, children_acts cs es are, refl, all_run cs);
    folders = sym (no_folders cs);
    answers = (cs, refl, loads, left);
    begun = (cs, refl, left, begun);
    still = λ none alone quiet. left ∙ same_behind cs (sym (all_captured cs) ∙ alone);
    alters = λ nodes alone quiet. altered_same (folders_in (map Act.captured cs)) nodes before.world after.world (left ∙ same_behind cs (sym (all_captured cs) ∙ alone));
  }

  or_pairs : (cs : List Capture) (program : List ℕ) (e : Error) → IsShellOf wanted.flags j program → OrMemory (λ x. LoadsPairs before.world wanted environ j cs (Err x)) e → ErrorLeaves (told_behind before.world cs) after.world e
      → OrMemory (λ x. LoadsIt (map Act.captured cs ++ acts_of_fault program (uncaptured_by e)) after.world (Err x)) e
  or_pairs cs program e shells (inl wants) left = inl wants
  or_pairs cs program e shells (inr loads) left = inr (cs, (program, shells, refl), loads, left)

  pairs_lost : (e : Error) → Loaded (Err e) → Performs LoadsIt Begins before after [] [] (Err e)
  pairs_lost e (cs, why, (middle, path, shells, (es, are, grew), more), left, begun) = record {
    acts = map Act.captured cs ++ acts_of_fault path (uncaptured_by e);
    entries = es ++ entries_in path e;
    grew = more ∙ (ap (λ l. l ++ entries_in path e) grew ∙ append_assoc before.entries es (entries_in path e));
    leaves = (es, path, fault_acts path cs (uncaptured_by e) es are, refl, fault_program path cs e (uncaptured_by e) refl);
    folders = sym (fault_folders path cs (uncaptured_by e));
    answers = or_pairs cs path e shells why left;
    begun = λ captured. (cs, no_fault cs path (uncaptured_by e) captured, captured_still (told_behind before.world cs) after.world e captured left, begun);
    still = λ none alone quiet.
        error_still (told_behind before.world cs) after.world path e left (quiet_rest is_failed es (entries_in path e) quiet) ∙ same_behind cs (sym (fault_captured path cs (uncaptured_by e)) ∙ alone);
    alters = λ nodes alone quiet.
        altered_same (folders_in (map Act.captured cs ++ acts_of_fault path (uncaptured_by e))) nodes before.world after.world
        (error_still (told_behind before.world cs) after.world path e left (quiet_rest is_failed es (entries_in path e) quiet) ∙ same_behind cs (sym (fault_captured path cs (uncaptured_by e)) ∙ alone));
  }

  module _ (modules : List Justfile) (are : AreModules (j ∷ []) modules) where
    -- the dotenv pairs aren't loaded
    lost_so : (acts : List Act) (e : Error) → OrMemory (λ x. LoadsIt acts after.world (Err x)) e → OrMemory (λ x. GivesIt acts after.world (Err x)) e
    lost_so acts e (inl wants) = inl wants
    lost_so acts e (inr (cs, is, loads, left)) = inr (modules, are, Behind.refused e (cs, is, loads, left) refl)

    pub no_pairs : (e : Error) → Loaded (Err e) → PerformsIt (Err e)
    no_pairs e runs = performs_lost LoadsIt GivesIt Begins Begins before after [] [] e (pairs_lost e runs) (λ acts why. lost_so acts e why) (λ acts b. b)

    module _ (pairs seen : List DotenvOf) (same : seen ≡ pairs) where
      behind_pairs : (acts : List Act) (r : Result B Error) → LoadsIt acts after.world (Ok pairs) → looks (loaded_in wanted environ j modules seen) r → GivesIt acts after.world r
      behind_pairs acts r (cs, is, loads, left) gives =
          (modules, are, Behind.both (loaded_in wanted environ j modules pairs) acts [] after.world (cs, is, (refl, refl, refl, refl, loads), left) (refl, refl, subst (λ ps. looks (loaded_in wanted environ j modules ps) r) same gives) (sym (append-nil acts)))

      or_behind : (acts : List Act) (e : Error) → LoadsIt acts after.world (Ok pairs) → OrMemory (λ x. (ms : List Justfile) → AreModules (j ∷ []) ms → looks (loaded_in wanted environ j ms seen) (Err x)) e → OrMemory (λ x. GivesIt acts after.world (Err x)) e
      or_behind acts e loads (inl wants) = inl wants
      or_behind acts e loads (inr gives) = inr (behind_pairs acts (Err e) loads (gives modules are))

      pub loaded_answer : (x : B) → Loaded (Ok pairs) → ((ms : List Justfile) → AreModules (j ∷ []) ms → looks (loaded_in wanted environ j ms seen) (Ok x)) → PerformsIt (Ok x)
      loaded_answer x runs gives =
          performs_as LoadsIt GivesIt Begins Begins before after [] [] pairs x (pairs_part pairs runs) (λ acts loads. behind_pairs acts (Ok x) loads (gives modules are)) (λ acts b. b)

      pub loaded_refused : (e : Error) → entries_of e ≡ [] → Loaded (Ok pairs) → OrMemory (λ x. (ms : List Justfile) → AreModules (j ∷ []) ms → looks (loaded_in wanted environ j ms seen) (Err x)) e → PerformsIt (Err e)
      loaded_refused e silent runs why =
          performs_looking LoadsIt GivesIt Begins Begins before after after [] [] pairs (Err e) (pairs_part pairs runs) refl (left_nothing after.entries e silent) (λ acts loads. or_behind acts e loads why) (λ acts b. b)

-- ---- children of one program

module _ {A : Type 0} (gives : List Capture → Result A Error → Type 0) (begins : List Capture → Type 0) (program : List ℕ) (before after : Moment) where
  abbrev pub RunsThem : List Act → Option World → Result A Error → Type 0
  RunsThem acts world r = (cs : List Capture) × AreActsBy program cs r acts × gives cs r × Leaves before.world cs world r

  abbrev pub BeginsThem : List Act → Option World → Type 0
  BeginsThem acts world = (cs : List Capture) × (acts ≡ map Act.captured cs) × (world ≡ told_behind before.world cs) × begins cs

  none_behind : (cs : List Capture) → cs ≡ [] → told_behind before.world cs ≡ before.world
  none_behind cs none = ap (λ (l : List Capture). told_behind before.world l) none

  or_run : (cs : List Capture) (e : Error) → OrMemory (λ x. gives cs (Err x)) e → ErrorLeaves (told_behind before.world cs) after.world e → OrMemory (λ x. RunsThem (map Act.captured cs ++ acts_of_fault program (uncaptured_by e)) after.world (Err x)) e
  or_run cs e (inl wants) left = inl wants
  or_run cs e (inr so) left = inr (cs, refl, so, left)

  -- they were run to their end, or one wasn't
  pub children_ran : (r : Result A Error) → Runs gives begins (λ p. p ≡ program) before after r → Performs RunsThem BeginsThem before after [] [] r
  children_ran (Ok x) (cs, so, (es, are, grew), left, begun) = record {
    acts = map Act.captured cs;
    entries = es;
    grew = grew;
    leaves = (es, children_acts cs es are, refl, all_run cs);
    folders = sym (no_folders cs);
    answers = (cs, refl, so, left);
    begun = (cs, refl, left, begun);
    still = λ none alone quiet. left ∙ none_behind cs (sym (all_captured cs) ∙ alone);
    alters = λ nodes alone quiet. altered_same (folders_in (map Act.captured cs)) nodes before.world after.world (left ∙ none_behind cs (sym (all_captured cs) ∙ alone));
  }
  children_ran (Err e) (cs, why, (middle, path, named, (es, are, grew), more), left, begun) = record {
    acts = map Act.captured cs ++ acts_of_fault program (uncaptured_by e);
    entries = es ++ entries_in program e;
    grew = more ∙ (ap (λ p. middle ++ entries_in p e) named ∙ (ap (λ l. l ++ entries_in program e) grew ∙ append_assoc before.entries es (entries_in program e)));
    leaves = (es, program, fault_acts program cs (uncaptured_by e) es are, refl, fault_program program cs e (uncaptured_by e) refl);
    folders = sym (fault_folders program cs (uncaptured_by e));
    answers = or_run cs e why left;
    begun = λ captured. (cs, no_fault cs program (uncaptured_by e) captured, captured_still (told_behind before.world cs) after.world e captured left, begun);
    still = λ none alone quiet.
        error_still (told_behind before.world cs) after.world program e left (quiet_rest is_failed es (entries_in program e) quiet) ∙ none_behind cs (sym (fault_captured program cs (uncaptured_by e)) ∙ alone);
    alters = λ nodes alone quiet.
        altered_same (folders_in (map Act.captured cs ++ acts_of_fault program (uncaptured_by e))) nodes before.world after.world
        (error_still (told_behind before.world cs) after.world program e left (quiet_rest is_failed es (entries_in program e) quiet) ∙ none_behind cs (sym (fault_captured program cs (uncaptured_by e)) ∙ alone));
  }

-- a refusal of arguments over a host, and of words, or want of memory
abbrev pub RefusesRun : Option World → List Entry → List Act → Option World → Arguments → Environ → Error → Type 0
RefusesRun told listings acts after a environ e = OrMemory (λ f. Serves listings told acts after (arguments_in a environ) (Err f)) e

abbrev pub RefusesOver : List (List ℕ) → Option World → List Entry → List Act → Option World → Error → Type 0
RefusesOver words told listings acts after e = OrMemory (λ f. Asks words told listings acts after (Err f)) e

-- ---- the project of the justfile in a place

module _ (config : Config) (environ : Environ) (location : Location) (before : Moment) (kept : List (List ℕ)) where
  abbrev here : LocatedRequest
  here = located_in config environ location

  abbrev Takes : List Act → Option World → Result (Wanted × List ℕ) Error → Type 0
  Takes = TakesWanted config location before.world

  abbrev BeginsTaking : List Act → Option World → Type 0
  BeginsTaking = BeginsIn config location before.world

  abbrev Finds : List Act → Option World → Result LaidRequest Error → Type 0
  Finds acts world r = FindsProjectAt before.world acts world here r

  abbrev BeginsFinding : List Act → Option World → Type 0
  BeginsFinding acts world = BeginsProject before.world acts world here

  -- there is no file
  no_file : (acts : List Act) (after : Option World) (e : Error) → OrMemory (λ x. Takes acts after (Err x)) e → OrMemory (λ x. Finds acts after (Err x)) e
  no_file acts after e (inl wants) = inl wants
  no_file acts after e (inr lost) = inr (Behind.refused e (lost environ) refl)

  pub place_untaken : (after : Moment) (keeps : List (List ℕ)) (e : Error) → Performs {A = Wanted × List ℕ} Takes BeginsTaking before after kept keeps (Err e) → PerformsProject here before after kept keeps (Err e)
  place_untaken after keeps e p = performs_lost Takes Finds BeginsTaking BeginsFinding before after kept keeps e p (λ acts lost. no_file acts after.world e lost) (λ acts b. BeginsBehind.at_first b)

  module _ (between after : Moment) (keeps : List (List ℕ)) (wanted : Wanted) (justfile : List ℕ) (taken : Performs {A = Wanted × List ℕ} Takes BeginsTaking before between kept keeps (Ok (wanted, justfile))) (still : after.world ≡ between.world) where
    -- what its file makes is what is found
    found_here : (acts : List Act) (r : Result LaidRequest Error) → Takes acts between.world (Ok (wanted, justfile)) → FindsProjectOf between.world (justfile_in wanted environ justfile) r → Finds acts after.world r
    found_here acts r takes finds = Behind.both (justfile_in wanted environ justfile) acts [] between.world (takes environ) (refl, still, finds) (sym (append-nil acts))

    or_found : (acts : List Act) (e : Error) → Takes acts between.world (Ok (wanted, justfile)) → OrMemory (λ x. FindsProjectOf between.world (justfile_in wanted environ justfile) (Err x)) e → OrMemory (λ x. Finds acts after.world (Err x)) e
    or_found acts e takes (inl wants) = inl wants
    or_found acts e takes (inr lost) = inr (found_here acts (Err e) takes lost)

    begun_here : (acts : List Act) → BeginsTaking acts between.world → BeginsFinding acts after.world
    begun_here acts b = BeginsBehind.at_first (subst (λ w. BeginsIn config location before.world acts w) (sym still) b)

    pub place_lost : (e : Error) → (es : List Entry) × (after.entries ≡ between.entries ++ es) × EndsWith [] e es → OrMemory (λ x. FindsProjectOf between.world (justfile_in wanted environ justfile) (Err x)) e → PerformsProject here before after kept keeps (Err e)
    place_lost e gains why =
        performs_looking Takes Finds BeginsTaking BeginsFinding before between after kept keeps (wanted, justfile) (Err e) taken still gains (λ acts takes. or_found acts e takes why) begun_here

    pub place_found : (l : LaidSources) → (es : List Entry) × (after.entries ≡ between.entries ++ es) × AreMisses es → FindsProjectOf between.world (justfile_in wanted environ justfile) (Ok (laid_in wanted environ l))
        → PerformsProject here before after kept keeps (Ok (laid_in wanted environ l))
    place_found l gains finds =
        performs_looking Takes Finds BeginsTaking BeginsFinding before between after kept keeps (wanted, justfile) (Ok (laid_in wanted environ l)) taken still gains (λ acts takes. found_here acts (Ok (laid_in wanted environ l)) takes finds) begun_here

  -- ---- the reply of the justfile there

  abbrev AsksPlace : Bool → List Act → Option World → Result Reply Error → Type 0
  AsksPlace fallback acts world r = AnswersAt before.world acts world here r fallback

  abbrev BeginsPlace : List Act → Option World → Type 0
  BeginsPlace acts world = BeginsAt before.world acts world here

  abbrev pub AskedAt : Bool → Moment → List (List ℕ) → Result Reply Error → Type 0
  AskedAt fallback after keeps r = Performs (AsksPlace fallback) BeginsPlace before after kept keeps r

  unasked : (acts : List Act) (after : Option World) (e : Error) → OrMemory (λ x. Finds acts after (Err x)) e → OrMemory (λ x. AsksPlace false acts after (Err x)) e
  unasked acts after e (inl wants) = inl wants
  unasked acts after e (inr lost) = inr (AnswersAt.no_project e lost refl refl)

  pub place_unasked : (after : Moment) (keeps : List (List ℕ)) (e : Error) → PerformsProject here before after kept keeps (Err e) → AskedAt false after keeps (Err e)
  place_unasked after keeps e p = performs_lost Finds (AsksPlace false) BeginsFinding BeginsPlace before after kept keeps e p (λ acts lost. unasked acts after.world e lost) (λ acts b. BeginsBehind.at_first b)

  module _ (between after : Moment) (keeps : List (List ℕ)) (q : LaidRequest) (found : PerformsProject here before between kept keeps (Ok q)) (fallback : Bool) (is : fallback ≡ (settings_of q.laid.justfile).fallback) where
    abbrev RepliesIt : List Act → Option World → Result Reply Error → Type 0
    RepliesIt acts world r = RepliesTo config between.world acts world q r

    answers : (acts more : List Act) (r : Result Reply Error) → Finds acts between.world (Ok q) → Answers (RepliesIt more after.world) r → Answers (AsksPlace fallback (acts ++ more) after.world) r
    answers acts more (Ok x) finds replies = AnswersAt.of_project q acts more between.world finds replies refl is
    answers acts more (Err e) finds (inl wants) = inl wants
    answers acts more (Err e) finds (inr replies) = inr (AnswersAt.of_project q acts more between.world finds replies refl is)

    pub place_asked : (r : Result Reply Error) → PerformsReply config q between after r → AskedAt fallback after keeps r
    place_asked r reply =
        performs_then Finds RepliesIt (AsksPlace fallback) BeginsFinding (BeginsIt q between.world) BeginsPlace before between after kept keeps keeps q r found (performs_behind RepliesIt (BeginsIt q between.world) between after keeps r reply)
        (λ acts more finds replies. answers acts more r finds replies) (λ acts more finds begins. BeginsBehind.at_second q acts more between.world finds begins refl)

-- ---- behind the words

module _ (a : Arguments) (environ : Environ) (told : Option World) where
  -- the current folder isn't found
  pub no_folder : (after : Option World) (e : Error) → after ≡ told → OrMemory (λ x. FolderGiven told (Err x)) e → (listings : List Entry) → RefusesRun told listings [] after a environ e
  no_folder after e world (inl wants) listings = inl wants
  no_folder after e world (inr lost) listings = inr (Behind.refused e (refl, world, lost) refl)

  module _ (folder : List ℕ) (given : FolderGiven told (Ok folder)) where
    -- the arguments give no configuration
    pub no_configuration : (after : Option World) (e : Error) → after ≡ told → OrMemory (λ x. (environ : Environ) → Configures (folder_in a environ folder) (Err x)) e → (listings : List Entry) → RefusesRun told listings [] after a environ e
    no_configuration after e world (inl wants) listings = inl wants
    no_configuration after e world (inr why) listings = inr (Behind.both (folder_in a environ folder) [] [] told (refl, refl, (refl, refl, given)) (Behind.refused e (refl, world, why environ) refl) refl)

    module _ (config : Config) (configures : (environ : Environ) → Configures (folder_in a environ folder) (Ok (config_in config environ))) (listings : List Entry) where
      -- what is decided behind the configuration is the answer
      pub decided : (acts : List Act) (after : Option World) (r : Result Asked Error) → Decides listings told acts after (config_in config environ) r → Serves listings told acts after (arguments_in a environ) r
      decided acts after r decides =
          Behind.both (folder_in a environ folder) [] acts told (refl, refl, (refl, refl, given)) (Behind.both (config_in config environ) [] acts told (refl, refl, configures environ) decides refl) refl

      -- and what was begun of it was begun of the arguments
      pub decided_begun : (acts : List Act) (after : Option World) → BeginsDecides listings told acts after (config_in config environ) → BeginsServes listings told acts after (arguments_in a environ)
      decided_begun acts after (inl nothing) = BeginsBehind.at_second (folder_in a environ folder) [] acts told (refl, refl, (refl, refl, given)) (BeginsBehind.at_first nothing) refl
      decided_begun acts after (inr begins) =
          BeginsBehind.at_second (folder_in a environ folder) [] acts told (refl, refl, (refl, refl, given)) (BeginsBehind.at_second (config_in config environ) [] acts told (refl, refl, configures environ) begins refl) refl

-- ---- from the words on

module _ (words : List (List ℕ)) (told : Option World) where
  -- the environment isn't found
  pub no_environ : (after : Option World) (e : Error) → after ≡ told → OrMemory (λ x. EnvironGiven told (Err x)) e → (listings : List Entry) → RefusesOver words told listings [] after e
  no_environ after e world (inl wants) listings = inl wants
  no_environ after e world (inr lost) listings = inr (Behind.refused e (refl, world, lost) refl)

  module _ (environ : Environ) (given : EnvironGiven told (Ok environ)) where
    -- the words are faulty
    pub no_words : (after : Option World) (e : Error) → after ≡ told → OrMemory (λ f. ReadsWords (words_in words environ) (Err f)) e → (listings : List Entry) → RefusesOver words told listings [] after e
    no_words after e world (inl wants) listings = inl wants
    no_words after e world (inr faulty) listings = inr (Behind.both (words_in words environ) [] [] told (refl, refl, (refl, given)) (Behind.refused e (refl, world, faulty) refl) refl)

    -- the help is asked for, or the version
    pub asks_help : Means words environ.pairs (Ok read.Help) → Asks words told [] [] told (Ok (Asked.other no_run.Help))
    asks_help means =
        Behind.both (words_in words environ) [] [] told (refl, refl, (refl, given)) (Behind.both (read_in read.Help environ) [] [] told (refl, refl, (means, refl)) (refl, refl, refl) refl) refl

    pub asks_version : Means words environ.pairs (Ok read.Version) → Asks words told [] [] told (Ok (Asked.other no_run.Version))
    asks_version means =
        Behind.both (words_in words environ) [] [] told (refl, refl, (refl, given)) (Behind.both (read_in read.Version environ) [] [] told (refl, refl, (means, refl)) (refl, refl, refl) refl) refl

    module _ (a : Arguments) (means : Means words environ.pairs (Ok (read.Go a))) (now : Option World) (same : now ≡ told) where
      -- what the arguments ask for is what the words ask for
      pub words_ask : (listings : List Entry) (acts : List Act) (after : Option World) (r : Result Asked Error) → Serves listings now acts after (arguments_in a environ) r → Asks words told listings acts after r
      words_ask listings acts after r serves =
          Behind.both (words_in words environ) [] acts told (refl, refl, (refl, given))
          (Behind.both (read_in (read.Go a) environ) [] acts told (refl, refl, (means, refl)) (subst (λ t. Serves listings t acts after (arguments_in a environ) r) same serves) refl) refl

      -- and what was begun of these was begun of the words
      pub words_begin : (listings : List Entry) (acts : List Act) (after : Option World) → BeginsServes listings now acts after (arguments_in a environ) → BeginsWords words told listings acts after
      words_begin listings acts after begins =
          BeginsBehind.at_second (words_in words environ) [] acts told (refl, refl, (refl, given))
          (BeginsBehind.at_second (read_in (read.Go a) environ) [] acts told (refl, refl, (means, refl)) (subst (λ t. BeginsServes listings t acts after (arguments_in a environ)) same begins) refl) refl

      -- and they ask for the user's own justfile
      pub asks_global : a.global_justfile ≡ true → AsksGlobal words told
      asks_global asked = (environ, a, given, means, asked)
