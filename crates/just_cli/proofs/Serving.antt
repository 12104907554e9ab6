-- What the preparation of a task answers and leaves, from what its calls do.
use Rattle.std.proofs.Common.{◌≡◌, ◌++◌, inl, inr, ℕ, Bool, true, false, List, [], Option, None, Result, Ok, Err, refl, sym, ◌∙◌, ap, subst, append-nil}
use Rattle.just_path_text.specs.declared.environ.Environ.{Environ}
use Rattle.just_host_record.specs.World.{World, Moment}
use Rattle.just_host_record.proofs.Moments.{moment_by}
use Rattle.just_host_record.specs.declared.entry.Entry.{Entry}
use Rattle.just_config_words.specs.declared.arguments.Arguments.{Arguments}
use Rattle.just_config_words.specs.declared.words.Read.TheVariants as read
use Rattle.just_config_words.specs.Words.{Means}
use Rattle.just_config.specs.declared.config.Config.{Config}
use Rattle.just_config.specs.declared.search_config.SearchConfig.TheVariants as search
use Rattle.just_config.specs.Config.{refusal, config_of}
use Rattle.just_search.specs.declared.location.Location.{Location}
use Rattle.just_search.specs.Removals.{with_entries}
use Rattle.just_exec.specs.declared.error.Error.{Error}
use Rattle.just_exec.specs.declared.error.Error.TheVariants as error
use Rattle.just_cli_plan.specs.Own.{OrMemory}
use Rattle.just_cli_texts.specs.Kinds.{kind_of, reads_justfile}
use Rattle.just_cli.specs.declared.task.Other.TheVariants as no_run
use Rattle.just_cli.specs.declared.task.Task.{Task}
use Rattle.just_cli.specs.declared.task.Task.TheVariants as task
use Rattle.just_cli.specs.Acts.{Act, Behind, BeginsBehind}
use Rattle.just_cli.specs.Asked.{Asked, AsksAlone, AsksAt, BeginsAsks, Decides, Serves, EnvironGiven, FolderGiven, Asks, AsksGlobal, BeginsServes, Begins}
use Rattle.just_cli_children.specs.Faults.{entries_of}
use Rattle.just_cli.specs.Preparing.{AreMisses, EndsWith}
use Rattle.just_cli.specs.Quiet.{AsksQuiet}
use Rattle.just_cli.specs.Request.{ArePassed}
use Rattle.just_cli.specs.Tasks.{asked_in, quiet_in, IsNoQuestion, BeginsDecides, PerformsAsked, PreparesConfig, PreparesArguments, PreparesWords, IsTask}
use Rattle.just_cli.specs.Words.{ConfigRequest, LocatedRequest, ReadsWords, Configures, FindsLocation}
use Rattle.just_cli.proofs.Chain.{arguments_in, folder_in, config_in, located_in, words_in, no_folder, no_configuration, decided, decided_begun, no_environ, no_words, words_ask, words_begin, asks_global}
use Rattle.just_cli.proofs.Asking.{asks_quiet}
use Rattle.just_cli.proofs.Globals.{global_by}
use Rattle.just_cli.proofs.Prepared.{ends_call, ends_nothing, ends_search, performs_refusal, performs_answer, performs_as, performs_lost, prepares_over, memory_behind}
use Rattle.just_cli.proofs.Silent.{words_silent, configuration_silent}

-- what arguments ask for over a host
abbrev ServesIt : Option World → Arguments → Environ → List Entry → List Act → Option World → Result Asked Error → Type 0
ServesIt told a environ listings acts after r = Serves listings told acts after (arguments_in a environ) r

abbrev BeginsIt : Option World → Arguments → Environ → List Entry → List Act → Option World → Type 0
BeginsIt told a environ listings acts after = BeginsServes listings told acts after (arguments_in a environ)

-- nothing was begun of them, or of words
no_act : (told after : Option World) (a : Arguments) (environ : Environ) (listings : List Entry) → after ≡ told → BeginsIt told a environ listings [] after
no_act told after a environ listings world = BeginsBehind.at_first (refl, world)

no_words_act : (words : List (List ℕ)) (told after : Option World) (listings : List Entry) → after ≡ told → Begins words told listings [] after
no_words_act words told after listings world = BeginsBehind.at_first (refl, world)

-- what arguments ask for over a host is prepared
abbrev pub Served : Arguments → Environ → Moment → Moment → List (List ℕ) → List (List ℕ) → Result Asked Error → Type 0
Served a environ before after kept keeps r = PreparesArguments (arguments_in a environ) before after kept keeps r

-- one moment tells the world of the other
one_world : (a b : Moment) → a ≡ b → a.world ≡ b.world
one_world a b same = ap (λ (m : Moment). m.world) same

-- ---- behind the configuration

module _ (c : ConfigRequest) (before : Moment) (kept : List (List ℕ)) where
  abbrev DecidesIt : List Entry → List Act → Option World → Result Asked Error → Type 0
  DecidesIt listings acts world r = Decides listings before.world acts world c r

  abbrev BeginsDeciding : List Entry → List Act → Option World → Type 0
  BeginsDeciding listings acts world = BeginsDecides listings before.world acts world c

  -- a command that reads no justfile
  module _ (alone : reads_justfile (kind_of c.config.subcommand) ≡ false) (after : Moment) (world : after.world ≡ before.world) where
    behind_nothing : (es : List Entry) → after.entries ≡ before.entries ++ es → after.entries ≡ (with_entries before []).entries ++ es
    behind_nothing es grew = grew ∙ ap (λ l. l ++ es) (sym (append-nil before.entries))

    pub alone_found : (x : Asked) → (es : List Entry) × (after.entries ≡ before.entries ++ es) × AreMisses es → AsksAlone (kind_of c.config.subcommand) before.world c (Ok x) → PreparesConfig c before after kept kept (Ok x)
    alone_found x gains asks =
        ([], inl refl, performs_answer (DecidesIt []) (BeginsDeciding []) (with_entries before []) after kept world (inl (refl, world)) x (gains.0, behind_nothing gains.0 gains.1, gains.2) (Decides.reads_none alone refl (refl, world, asks)))

    or_alone : (e : Error) → OrMemory (λ x. AsksAlone (kind_of c.config.subcommand) before.world c (Err x)) e → OrMemory (λ x. DecidesIt [] [] after.world (Err x)) e
    or_alone e (inl wants) = inl wants
    or_alone e (inr asks) = inr (Decides.reads_none alone refl (refl, world, asks))

    pub alone_refused : (e : Error) → (es : List Entry) × (after.entries ≡ before.entries ++ es) × EndsWith [] e es → OrMemory (λ x. AsksAlone (kind_of c.config.subcommand) before.world c (Err x)) e → PreparesConfig c before after kept kept (Err e)
    alone_refused e gains why =
        ([], inl refl, performs_refusal (DecidesIt []) (BeginsDeciding []) (with_entries before []) after kept world (inl (refl, world)) e (gains.0, behind_nothing gains.0 gains.1, gains.2) (or_alone e why))

  -- the justfile is searched
  module _ (reads : reads_justfile (kind_of c.config.subcommand) ≡ true) (listings : List Entry) (passed : ArePassed (c.config.search_config ≡ search.GlobalJustfile) listings) where
    or_unfound : (after : Option World) (e : Error) → after ≡ before.world → OrMemory (λ x. FindsLocation before.world listings c.config (Err x)) e → OrMemory (λ x. DecidesIt listings [] after (Err x)) e
    or_unfound after e world (inl wants) = inl wants
    or_unfound after e world (inr lost) = inr (Decides.reads_one reads (Behind.refused e (refl, world, lost) refl))

    pub location_lost : (after : Moment) (e : Error) → after.world ≡ before.world → after.entries ≡ before.entries ++ (listings ++ entries_of e) → OrMemory (λ x. FindsLocation before.world listings c.config (Err x)) e → PreparesConfig c before after kept kept (Err e)
    location_lost after e world grew lost =
        ends_search (c.config.search_config ≡ search.GlobalJustfile) DecidesIt BeginsDeciding before after kept listings passed e world (inl (refl, world)) grew (or_unfound after.world e world lost)

    module _ (middle after : Moment) (listed : middle.entries ≡ before.entries ++ listings) (still : middle.world ≡ before.world) (location : Location) (finds : FindsLocation before.world listings c.config (Ok location)) where
      listed_so : middle ≡ with_entries before listings
      listed_so = moment_by middle (with_entries before listings) listed still

      abbrev there : LocatedRequest
      there = located_in c.config c.environ location

      asked_here : (keeps : List (List ℕ)) (r : Result Asked Error) → PerformsAsked there middle after kept keeps r → PerformsAsked there (with_entries before listings) after kept keeps r
      asked_here keeps r asks = subst (λ (m : Moment). PerformsAsked there m after kept keeps r) listed_so asks

      abbrev AsksIt : List Act → Option World → Result Asked Error → Type 0
      AsksIt acts world x = AsksAt before.world acts world there x

      abbrev BeginsAsking : List Act → Option World → Type 0
      BeginsAsking acts world = BeginsAsks before.world acts world there

      decided_so : (acts : List Act) (r : Result Asked Error) → AsksIt acts after.world r → DecidesIt listings acts after.world r
      decided_so acts r asks = Decides.reads_one reads (Behind.both there [] acts before.world (refl, refl, (refl, refl, finds)) asks refl)

      or_decided : (acts : List Act) (e : Error) → OrMemory (λ x. AsksIt acts after.world (Err x)) e → OrMemory (λ x. DecidesIt listings acts after.world (Err x)) e
      or_decided acts e (inl wants) = inl wants
      or_decided acts e (inr asks) = inr (decided_so acts (Err e) asks)

      begun_so : (acts : List Act) → BeginsAsking acts after.world → BeginsDeciding listings acts after.world
      begun_so acts begins = inr (reads, BeginsBehind.at_second there [] acts before.world (refl, refl, (refl, refl, finds)) begins refl)

      pub place_asked : (keeps : List (List ℕ)) (r : Result Asked Error) → PerformsAsked there middle after kept keeps r → PreparesConfig c before after kept keeps r
      place_asked keeps (Ok x) asks = (listings, passed, performs_as AsksIt (DecidesIt listings) BeginsAsking (BeginsDeciding listings) (with_entries before listings) after kept keeps x x (asked_here keeps (Ok x) asks) (λ acts so. decided_so acts (Ok x) so) begun_so)
      place_asked keeps (Err e) asks = (listings, passed, performs_lost AsksIt (DecidesIt listings) BeginsAsking (BeginsDeciding listings) (with_entries before listings) after kept keeps e (asked_here keeps (Err e) asks) (λ acts why. or_decided acts e why) begun_so)

-- ---- behind the arguments

module _ (before : Moment) (a : Arguments) (environ : Environ) (kept : List (List ℕ)) where
  pub folder_lost : (after : Moment) (e : Error) → after.world ≡ before.world → after.entries ≡ before.entries ++ entries_of e → OrMemory (λ x. FolderGiven before.world (Err x)) e → Served a environ before after kept kept (Err e)
  folder_lost after e world grew lost =
      ends_call (a.global_justfile ≡ true) (ServesIt before.world a environ) (BeginsIt before.world a environ) before after kept e world (no_act before.world after.world a environ [] world) grew (no_folder a environ before.world after.world e world lost)

  module _ (folder : List ℕ) (given : FolderGiven before.world (Ok folder)) where
    pub configuration_refused : (after : Moment) (e : Error) → after.world ≡ before.world → after.entries ≡ before.entries → OrMemory (λ x. (k : Environ) → Configures (folder_in a k folder) (Err x)) e → Served a environ before after kept kept (Err e)
    configuration_refused after e world same why =
        ends_nothing (a.global_justfile ≡ true) (ServesIt before.world a environ) (BeginsIt before.world a environ) before after kept e world (no_act before.world after.world a environ [] world) same (configuration_silent (λ k. folder_in a k folder) environ e why)
        (no_configuration a environ before.world folder given after.world e world why)

    -- what the configuration asks for is what the arguments ask for
    pub configured : (config : Config) → (refusal a ≡ None) × (config ≡ config_of a folder) → ((k : Environ) → Configures (folder_in a k folder) (Ok (config_in config k)))
        → (seen after : Moment) → seen ≡ before → (keeps : List (List ℕ)) (r : Result Asked Error) → PreparesConfig (config_in config environ) seen after kept keeps r → Served a environ before after kept keeps r
    configured config gives configures seen after same keeps r asks =
        prepares_over (config.search_config ≡ search.GlobalJustfile) (a.global_justfile ≡ true) (λ listings acts world x. Decides listings seen.world acts world (config_in config environ) x) (ServesIt before.world a environ)
        (λ listings acts world. BeginsDecides listings seen.world acts world (config_in config environ)) (BeginsIt before.world a environ) (global_by a folder config gives.1) after
        (λ listings acts x decides. decided a environ before.world folder given config configures listings acts after.world x (subst (λ t. Decides listings t acts after.world (config_in config environ) x) (one_world seen before same) decides))
        (λ listings acts begins. decided_begun a environ before.world folder given config configures listings acts after.world (subst (λ t. BeginsDecides listings t acts after.world (config_in config environ)) (one_world seen before same) begins))
        before seen kept keeps r same asks

module _ (words : List (List ℕ)) (before : Moment) (kept : List (List ℕ)) where
  pub environ_lost : (after : Moment) (e : Error) → after.world ≡ before.world → after.entries ≡ before.entries ++ entries_of e → OrMemory (λ x. EnvironGiven before.world (Err x)) e → PreparesWords words before after kept kept (Err e)
  environ_lost after e world grew lost =
      ends_call (AsksGlobal words before.world) (Asks words before.world) (Begins words before.world) before after kept e world (no_words_act words before.world after.world [] world) grew (no_environ words before.world after.world e world lost)

  module _ (environ : Environ) (given : EnvironGiven before.world (Ok environ)) where
    pub words_refused : (after : Moment) (e : Error) → after.world ≡ before.world → after.entries ≡ before.entries → OrMemory (λ x. ReadsWords (words_in words environ) (Err x)) e → PreparesWords words before after kept kept (Err e)
    words_refused after e world same why =
        ends_nothing (AsksGlobal words before.world) (Asks words before.world) (Begins words before.world) before after kept e world (no_words_act words before.world after.world [] world) same (words_silent (words_in words environ) e why)
        (no_words words before.world environ given after.world e world why)

    -- what the arguments ask for is what the words ask for
    module _ (a : Arguments) (means : Means words environ.pairs (Ok (read.Go a))) (seen : Moment) (same : seen ≡ before) (after : Moment) (keeps : List (List ℕ)) where
      still : seen.world ≡ before.world
      still = one_world seen before same

      served_so : (r : Result Asked Error) → Served a environ seen after kept keeps r → PreparesWords words before after kept keeps r
      served_so r served =
          prepares_over (a.global_justfile ≡ true) (AsksGlobal words before.world) (ServesIt seen.world a environ) (Asks words before.world) (BeginsIt seen.world a environ) (Begins words before.world) (asks_global words before.world environ given a means seen.world still) after
          (λ listings acts s serves. words_ask words before.world environ given a means seen.world still listings acts after.world s serves) (λ listings acts begins. words_begin words before.world environ given a means seen.world still listings acts after.world begins) before seen kept keeps r same served

      asks_so : (quiet : Bool) → quiet ≡ a.quiet → AsksQuiet words before.world quiet
      asks_so quiet quiet_is = asks_quiet words before.world environ given a quiet means quiet_is

      task_so : (x : Asked) (quiet : Bool) → Served a environ seen after kept keeps (Ok x) → quiet ≡ a.quiet → PreparesWords words before after kept keeps (Ok x) × AsksQuiet words before.world quiet
      task_so x quiet served is = (served_so (Ok x) served, asks_so quiet is)

      pub words_served : (t : Task) → Served a environ seen after kept keeps (Ok (asked_in t)) → quiet_in t ≡ a.quiet → IsNoQuestion t → IsTask words before after kept keeps t
      words_served (task.Run p jobs messages quiet) served is found = task_so (asked_in (task.Run p jobs messages quiet)) quiet served is
      words_served (task.Dry p jobs messages quiet) served is found = task_so (asked_in (task.Dry p jobs messages quiet)) quiet served is
      words_served (task.List p quiet) served is found = task_so (Asked.listing p) quiet served is
      words_served (task.Other no_run.Help quiet) served is found = absurd found
      words_served (task.Other no_run.Version quiet) served is found = absurd found
      words_served (task.Other (no_run.Init path) quiet) served is found = task_so (Asked.other (no_run.Init path)) quiet served is
      words_served (task.Other (no_run.Show p) quiet) served is found = task_so (Asked.other (no_run.Show p)) quiet served is
      words_served (task.Other no_run.Nothing quiet) served is found = task_so (Asked.other no_run.Nothing) quiet served is
      words_served (task.Other (no_run.Write path text) quiet) served is found = task_so (Asked.other (no_run.Write path text)) quiet served is
      words_served (task.Other (no_run.Clean folder path) quiet) served is found = (served_so (Ok (Asked.other (no_run.Clean folder path))) served, asks_so quiet is, found)
      words_served (task.Other (no_run.Invoke child) quiet) served is found = (served_so (Ok (Asked.other (no_run.Invoke child))) served, asks_so quiet is, found)
      words_served (task.Other (no_run.Vectors count) quiet) served is found = task_so (Asked.other (no_run.Vectors count)) quiet served is

      pub words_unserved : (e : Error) → Served a environ seen after kept keeps (Err e) → PreparesWords words before after kept keeps (Err e)
      words_unserved e served = served_so (Err e) served

  -- a run that isn't started, for want of memory
  pub unstarted : (after later : Moment) (keeps : List (List ℕ)) (x : Asked) → later.entries ≡ after.entries → later.world ≡ after.world → PreparesWords words before after kept keeps (Ok x) → PreparesWords words before later kept keeps (Err error.NoMemory)
  unstarted after later keeps x same world asked =
      memory_behind (AsksGlobal words before.world) (Asks words before.world) (Asks words before.world) (Begins words before.world) before after later kept keeps x (moment_by later after same world) asked
