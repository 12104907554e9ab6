-- What commands ask of a justfile, as parts of a preparation.
use Rattle.std.proofs.Common.{◌≡◌, ◌++◌, inl, inr, ℕ, Bool, true, false, List, [], ◌∷◌, Option, Some, None, Result, Ok, Err, refl, sym, ◌∙◌, ap, subst, append-nil}
use Rattle.std.specs.Prelude.{MatchResult, IfOk, IfErr, option_map}
use Rattle.std.specs.Int.NonZero.{non_zero_u64_get}
use Rattle.std.specs.declared.num.NonZeroU64.{NonZeroU64}
use Rattle.just_sched_history.specs.declared.plan.Plan.{Plan}
use Rattle.just_cli.specs.declared.replied.Replied.{Replied}
use Rattle.just_cli.specs.declared.replied.Replied.TheVariants as replied
use Rattle.just_cli.specs.declared.task.Task.{Task}
use Rattle.just_cli.specs.declared.task.Task.TheVariants as task
use Rattle.just_path_text.specs.declared.environ.Environ.{Environ}
use Rattle.just_host_record.specs.World.{World, Moment}
use Rattle.just_host_record.specs.declared.entry.Entry.{Entry}
use Rattle.just_lang_types.specs.declared.project.Justfile.{Justfile}
use Rattle.just_lang_types.specs.declared.project.LangError.{LangError}
use Rattle.just_lang_types.specs.declared.scope.DotenvOf.{DotenvOf}
use Rattle.just_lang_types.specs.declared.scope.Scopes.{Scopes}
use Rattle.just_lang_types.specs.declared.source.Source.{Source}
use Rattle.just_lang_types.specs.Modules.{AreModules}
use Rattle.just_lang_layout.specs.Paths.{Pairs}
use Rattle.just_config.specs.declared.config.Config.{Config}
use Rattle.just_config_words.specs.declared.subcommand.Subcommand.{Subcommand}
use Rattle.just_config_words.specs.declared.subcommand.Subcommand.TheVariants as command
use Rattle.just_env.specs.declared.search_error.SearchError.{SearchError}
use Rattle.just_search.specs.declared.location.Location.{Location}
use Rattle.just_search.specs.declared.location.Origin.{Origin}
use Rattle.just_search_load.specs.Loads.{source_at}
use Rattle.just_search_load.specs.Shown.{ReadsText}
use Rattle.just_eval.specs.Evaluations.{IsEvaluation}
use Rattle.just_exec.specs.Refusals.{error_of_lang, error_of_search}
use Rattle.just_exec.specs.declared.error.Error.{Error}
use Rattle.just_cli_plan.specs.declared.wanted.Wanted.{Wanted}
use Rattle.just_cli_plan.specs.Own.{OrMemory}
use Rattle.just_cli_plan.specs.Request.{LoadedRequest, ScopesRequest, EvaluatesVariables, outline_of}
use Rattle.just_cli_plan.specs.Steps.{Then, stops, goes_on}
use Rattle.just_cli_texts.specs.declared.kind.Kind.{Kind}
use Rattle.just_cli_texts.specs.declared.kind.Kind.TheVariants as kind
use Rattle.just_cli_texts.specs.declared.printed.Printed.{Printed}
use Rattle.just_cli_texts.specs.Evaluated.{names_of_words, format_of, EvaluatesNames}
use Rattle.just_cli_texts.specs.Formatted.{Formats}
use Rattle.just_cli_texts.specs.Kinds.{kind_of, is_choice, is_new, is_placed, is_vectors, reads_justfile, words_of}
use Rattle.just_cli_texts.specs.Laid.{LaidRequest}
use Rattle.just_cli_texts.specs.Prints.{alone, as_printed, Prints}
use Rattle.just_cli_texts.specs.Responses.{requested, responded}
use Rattle.just_cli_vectors.specs.Vectors.{count_of}
use Rattle.just_cli.specs.declared.task.Other.{Other}
use Rattle.just_cli.specs.declared.task.Other.TheVariants as no_run
use Rattle.just_cli.specs.Acts.{Act, Step, Begun, NoAct, Looks, Behind, BeginsBehind}
use Rattle.just_cli.specs.Asked.{Asked, AsksAlone, Counts, Responds, AsksAt, AsksBy, BeginsAsks, BeginsBy, as_choice, as_other, as_reply, as_run}
use Rattle.just_cli.specs.Choosing.{ChoosesAt, BeginsChoosesAt}
use Rattle.just_cli.specs.NewPath.{FindsFree}
use Rattle.just_cli.specs.Replies.{Reply}
use Rattle.just_cli.specs.Commands.{as_shown, is_file, anew, anew_or, CommandsAt, PrintsIt, EvaluatesIt, InvokesIt, FormatsFile, BeginsCommand}
use Rattle.just_cli_children.specs.declared.child.Child.{Child}
use Rattle.just_cli_children.specs.Children.{words_child}
use Rattle.just_cli_children.specs.Faults.{entries_of}
use Rattle.just_cli.specs.Preparing.{AreMisses, EndsWith, Answers, Performs, as_chosen, reply_of}
use Rattle.just_cli.specs.Request.{FindsProjectAt, Tries, BeginsProject, BeginsTries}
use Rattle.just_cli.specs.Taken.{TakesWanted, PerformsProject, PerformsChoices, PerformsCommand, PerformsTries}
use Rattle.just_cli.specs.Tasks.{as_task, PerformsAsked}
use Rattle.just_cli.specs.Words.{ConfigRequest, LocatedRequest, JustfileRequest, TakesFile, BeginsFile, BeginsIn}
use Rattle.just_cli.proofs.Prepared.{left_nothing, performs_as, performs_refusal, performs_answer, performs_lost, performs_looking, performs_then, performs_behind}

-- ---- what is asked of a project

module _ (step : Step LaidRequest Other) (begins : Begun LaidRequest) (here : LocatedRequest) (before : Moment) (kept : List (List ℕ)) where
  abbrev Finds : List Act → Option World → Result LaidRequest Error → Type 0
  Finds acts world r = FindsProjectAt before.world acts world here r

  abbrev BeginsFinding : List Act → Option World → Type 0
  BeginsFinding acts world = BeginsProject before.world acts world here

  abbrev Asks : List Act → Option World → Result Other Error → Type 0
  Asks acts world r = Behind FindsProjectAt step before.world acts world here r

  abbrev BeginsAsking : List Act → Option World → Type 0
  BeginsAsking acts world = BeginsBehind BeginsProject FindsProjectAt begins before.world acts world here

  abbrev pub AskedSo : Moment → List (List ℕ) → Result Other Error → Type 0
  AskedSo after keeps r = Performs Asks BeginsAsking before after kept keeps r

  or_unasked : (acts : List Act) (after : Option World) (e : Error) → OrMemory (λ x. Finds acts after (Err x)) e → OrMemory (λ x. Asks acts after (Err x)) e
  or_unasked acts after e (inl wants) = inl wants
  or_unasked acts after e (inr lost) = inr (Behind.refused e lost refl)

  -- there is none
  pub project_lost : (after : Moment) (keeps : List (List ℕ)) (e : Error) → PerformsProject here before after kept keeps (Err e) → AskedSo after keeps (Err e)
  project_lost after keeps e p = performs_lost Finds Asks BeginsFinding BeginsAsking before after kept keeps e p (λ acts lost. or_unasked acts after.world e lost) (λ acts b. BeginsBehind.at_first b)

  module _ (between after : Moment) (keeps : List (List ℕ)) (q : LaidRequest) (found : PerformsProject here before between kept keeps (Ok q)) where
    abbrev Steps : List Act → Option World → Result Other Error → Type 0
    Steps acts world r = step between.world acts world q r

    abbrev BeginsStep : List Act → Option World → Type 0
    BeginsStep acts world = begins between.world acts world q

    both : (acts more : List Act) (r : Result Other Error) → Finds acts between.world (Ok q) → Answers (Steps more after.world) r → Answers (Asks (acts ++ more) after.world) r
    both acts more (Ok x) finds steps = Behind.both q acts more between.world finds steps refl
    both acts more (Err e) finds (inl wants) = inl wants
    both acts more (Err e) finds (inr steps) = inr (Behind.both q acts more between.world finds steps refl)

    -- what is asked of it
    pub project_then : (r : Result Other Error) → Performs Steps BeginsStep between after [] [] r → AskedSo after keeps r
    project_then r p =
        performs_then Finds Steps Asks BeginsFinding BeginsStep BeginsAsking before between after kept keeps keeps q r found (performs_behind Steps BeginsStep between after keeps r p) (λ acts more finds steps. both acts more r finds steps)
        (λ acts more finds begun. BeginsBehind.at_second q acts more between.world finds begun refl)

-- ---- a step that only looks at what is there

module _ {A : Type 0} (looks : A → Result Other Error → Type 0) (now : Moment) (q : A) where
  abbrev Sees : List Act → Option World → Result Other Error → Type 0
  Sees acts world r = Looks (λ told. looks) now.world acts world q r

  abbrev Nothing : List Act → Option World → Type 0
  Nothing acts world = NoAct now.world acts world q

  pub look_found : (x : Other) → looks q (Ok x) → Performs Sees Nothing now now [] [] (Ok x)
  look_found x gives = performs_answer Sees Nothing now now [] refl (refl, refl) x ([], sym (append-nil now.entries), tt) (refl, refl, gives)

  or_looked : (e : Error) → OrMemory (λ x. looks q (Err x)) e → OrMemory (λ x. Sees [] now.world (Err x)) e
  or_looked e (inl wants) = inl wants
  or_looked e (inr gives) = inr (refl, refl, gives)

  pub look_refused : (e : Error) → entries_of e ≡ [] → OrMemory (λ x. looks q (Err x)) e → Performs Sees Nothing now now [] [] (Err e)
  look_refused e silent why = performs_refusal Sees Nothing now now [] refl (refl, refl) e (left_nothing now.entries e silent) (or_looked e why)

-- what is printed of it
pub or_prints : (c : Config) (q : LaidRequest) (e : Error) → OrMemory (λ x. Prints q.environ.pairs c q.laid (Err x)) e → OrMemory (λ x. PrintsIt c q (Err x)) e
or_prints c q e (inl wants) = inl wants
or_prints c q e (inr prints) = inr (Err e, prints, refl)

-- ---- values

module _ (c : Config) (q : LaidRequest) (dotenv : List DotenvOf) where
  abbrev loaded : List Justfile → LoadedRequest
  loaded modules = record { wanted = q.wanted; environ = q.environ; justfile = q.laid.justfile; modules = modules; dotenv = dotenv }

  abbrev behind : Scopes → List Justfile → ScopesRequest
  behind scopes modules = record { wanted = q.wanted; justfile = q.laid.justfile; modules = modules; scopes = scopes }

  abbrev ByAll : (List Justfile → Type 0) → Type 0
  ByAll holds = (modules : List Justfile) → AreModules (q.laid.justfile ∷ []) modules → holds modules

  pub unvalued : (e : Error) → OrMemory (λ x. (l : LangError) × ByAll (λ modules. IsEvaluation modules dotenv q.environ q.wanted.overrides (Err l)) × (x ≡ error_of_lang l)) e → OrMemory (λ x. ByAll (λ modules. Then EvaluatesVariables (EvaluatesIt c) (loaded modules) (Err x))) e
  unvalued e (inl wants) = inl wants
  unvalued e (inr (l, refused, is)) = inr (λ modules are. stops e (l, refused modules are, is) refl)

  module _ (scopes : Scopes) (valued : ByAll (λ modules. IsEvaluation modules dotenv q.environ q.wanted.overrides (Ok scopes))) where
    abbrev Names : List Justfile → Result (List ℕ) Error → Type 0
    Names modules r = EvaluatesNames (format_of c) modules scopes q.laid.justfile (names_of_words q.wanted.words) r

    pub evaluates_so : (text : List ℕ) → ByAll (λ modules. Names modules (Ok text)) → ByAll (λ modules. Then EvaluatesVariables (EvaluatesIt c) (loaded modules) (Ok (no_run.Show (alone text))))
    evaluates_so text names modules are = goes_on (behind scopes modules) (refl, refl, refl, valued modules are) (Ok text, names modules are, refl)

    pub unevaluated_so : (e : Error) → OrMemory (λ x. ByAll (λ modules. Names modules (Err x))) e → OrMemory (λ x. ByAll (λ modules. Then EvaluatesVariables (EvaluatesIt c) (loaded modules) (Err x))) e
    unevaluated_so e (inl wants) = inl wants
    unevaluated_so e (inr names) = inr (λ modules are. goes_on (behind scopes modules) (refl, refl, refl, valued modules are) (Err e, names modules are, refl))

-- ---- children of words

module _ (c : Config) (q : LaidRequest) (dotenv : List DotenvOf) where
  abbrev loaded_so : List Justfile → LoadedRequest
  loaded_so modules = record { wanted = q.wanted; environ = q.environ; justfile = q.laid.justfile; modules = modules; dotenv = dotenv }

  abbrev ByEach : (List Justfile → Type 0) → Type 0
  ByEach holds = (modules : List Justfile) → AreModules (q.laid.justfile ∷ []) modules → holds modules

  pub uninvoked : (e : Error) → OrMemory (λ x. (l : LangError) × ByEach (λ modules. IsEvaluation modules dotenv q.environ q.wanted.overrides (Err l)) × (x ≡ error_of_lang l)) e → OrMemory (λ x. ByEach (λ modules. Then EvaluatesVariables (InvokesIt c) (loaded_so modules) (Err x))) e
  uninvoked e (inl wants) = inl wants
  uninvoked e (inr (l, refused, is)) = inr (λ modules are. stops e (l, refused modules are, is) refl)

  pub invokes_so : (scopes : Scopes) → ByEach (λ modules. IsEvaluation modules dotenv q.environ q.wanted.overrides (Ok scopes)) → (child : Child) → child ≡ words_child c q.wanted.flags scopes q.laid.justfile
      → ByEach (λ modules. Then EvaluatesVariables (InvokesIt c) (loaded_so modules) (Ok (no_run.Invoke child)))
  invokes_so scopes valued child is modules are =
      let behind : ScopesRequest = record { wanted = q.wanted; justfile = q.laid.justfile; modules = modules; scopes = scopes } in
      goes_on behind (refl, refl, refl, valued modules are) (ap (λ (x : Child). let into : Result Other Error = Ok (no_run.Invoke x) in into) is)

-- ---- a text that is made anew

module _ (c : Config) (environ : Pairs) (s : Source) (file : Bool) (path : List ℕ) where
  abbrev MadeAnew : Result Other Error → Type 0
  MadeAnew r = (y : Result (List ℕ) Error) × Formats c environ s y × (r ≡ anew_or c.check file path s.text y)

  pub anew_found : (text : List ℕ) → Formats c environ s (Ok text) → (r : Result Other Error) → r ≡ anew c.check file path s.text text → MadeAnew r
  anew_found text formats r is = (Ok text, formats, is)

  pub source_refused : (e : Error) → OrMemory (λ x. Formats c environ s (Err x)) e → OrMemory (λ x. MadeAnew (Err x)) e
  source_refused e (inl wants) = inl wants
  source_refused e (inr formats) = inr (Err e, formats, refl)

-- ---- the text of a file

module _ (told : Option World) (c : Config) (from : Origin) (j : JustfileRequest) where
  pub unread : (e : Error) → OrMemory (λ x. (f : SearchError) × ReadsText told j.justfile (Err f) × (x ≡ error_of_search f)) e → OrMemory (λ x. FormatsFile told c from j (Err x)) e
  unread e (inl wants) = inl wants
  unread e (inr lost) = inr (FormatsFile.unread lost.0 lost.1 (ap (λ (x : Error). let into : Result Other Error = Err x in into) lost.2))

  module _ (sources : List Source) (read : (text : List ℕ) × ReadsText told j.justfile (Ok text) × (sources ≡ source_at j.justfile text ∷ [])) (s : Source) (alone : sources ≡ s ∷ []) (file : Bool) (is_one : file ≡ is_file from) where
    -- that it is made anew, and what is done then
    abbrev Anew : Result Other Error → Type 0
    Anew r = (y : Result (List ℕ) Error) × Formats c j.environ.pairs s y × (r ≡ anew_or c.check file j.justfile s.text y)

    it_is : s ≡ source_at j.justfile read.0
    it_is = let last : sources ≡ source_at j.justfile read.0 ∷ [] = read.2 in cc

    pub file_anew : (r : Result Other Error) → Anew r → FormatsFile told c from j r
    file_anew r (y, formats, is) =
        FormatsFile.read read.0 y read.1 (subst (λ z. Formats c j.environ.pairs z y) it_is formats)
        (is ∙ (ap (λ (z : Source). anew_or c.check file j.justfile z.text y) it_is ∙ ap (λ b. anew_or c.check b j.justfile read.0 y) is_one))

    pub file_refused : (e : Error) → OrMemory (λ x. Anew (Err x)) e → OrMemory (λ x. FormatsFile told c from j (Err x)) e
    file_refused e (inl wants) = inl wants
    file_refused e (inr gives) = inr (file_anew (Err e) gives)

  -- that it is formatted, or refused
  pub file_formats : (r : Result Other Error) → IfOk r (λ x. FormatsFile told c from j (Ok x)) → IfErr r (OrMemory (λ e. FormatsFile told c from j (Err e))) → Answers (FormatsFile told c from j) r
  file_formats (Ok x) formats refused = formats
  file_formats (Err e) formats refused = refused

-- ---- the justfile's file

-- of what the answer is that is looked for behind it, `looks` says
module _ (looks : Option World → JustfileRequest → Result Other Error → Type 0) (config : Config) (environ : Environ) (location : Location) (before : Moment) (kept : List (List ℕ)) where
  abbrev place : LocatedRequest
  place = record { config = config; environ = environ; location = location }

  abbrev Takes : List Act → Option World → Result (Wanted × List ℕ) Error → Type 0
  Takes = TakesWanted config location before.world

  abbrev BeginsTaking : List Act → Option World → Type 0
  BeginsTaking = BeginsIn config location before.world

  abbrev AsksFile : List Act → Option World → Result Other Error → Type 0
  AsksFile acts world r = Behind TakesFile (Looks looks) before.world acts world place r

  abbrev BeginsAskingFile : List Act → Option World → Type 0
  BeginsAskingFile acts world = BeginsBehind BeginsFile TakesFile NoAct before.world acts world place

  abbrev pub AskedFile : Moment → List (List ℕ) → Result Other Error → Type 0
  AskedFile after keeps r = Performs AsksFile BeginsAskingFile before after kept keeps r

  or_untaken : (acts : List Act) (after : Option World) (e : Error) → OrMemory (λ x. Takes acts after (Err x)) e → OrMemory (λ x. AsksFile acts after (Err x)) e
  or_untaken acts after e (inl wants) = inl wants
  or_untaken acts after e (inr lost) = inr (Behind.refused e (lost environ) refl)

  pub file_untaken : (after : Moment) (keeps : List (List ℕ)) (e : Error) → Performs {A = Wanted × List ℕ} Takes BeginsTaking before after kept keeps (Err e) → AskedFile after keeps (Err e)
  file_untaken after keeps e p = performs_lost Takes AsksFile BeginsTaking BeginsAskingFile before after kept keeps e p (λ acts lost. or_untaken acts after.world e lost) (λ acts b. BeginsBehind.at_first b)

  module _ (between after : Moment) (keeps : List (List ℕ)) (wanted : Wanted) (justfile : List ℕ) (taken : Performs {A = Wanted × List ℕ} Takes BeginsTaking before between kept keeps (Ok (wanted, justfile))) (still : after.world ≡ between.world) where
    abbrev file_there : JustfileRequest
    file_there = record { wanted = wanted; environ = environ; justfile = justfile }

    asked_there : (acts : List Act) (r : Result Other Error) → Takes acts between.world (Ok (wanted, justfile)) → looks between.world file_there r → AsksFile acts after.world r
    asked_there acts r takes gives = Behind.both file_there acts [] between.world (takes environ) (refl, still, gives) (sym (append-nil acts))

    all_there : (acts : List Act) (r : Result Other Error) → Takes acts between.world (Ok (wanted, justfile)) → Answers (looks between.world file_there) r → Answers (AsksFile acts after.world) r
    all_there acts (Ok x) takes gives = asked_there acts (Ok x) takes gives
    all_there acts (Err e) takes (inl wants) = inl wants
    all_there acts (Err e) takes (inr gives) = inr (asked_there acts (Err e) takes gives)

    pub file_asked : (r : Result Other Error) → (es : List Entry) × (after.entries ≡ between.entries ++ es) × MatchResult r (λ _. AreMisses es) (λ e. EndsWith [] e es) → Answers (looks between.world file_there) r → AskedFile after keeps r
    file_asked r gains gives =
        performs_looking Takes AsksFile BeginsTaking BeginsAskingFile before between after kept keeps (wanted, justfile) r taken still gains (λ acts takes. all_there acts r takes gives)
        (λ acts b. BeginsBehind.at_first (subst (λ w. BeginsIn config location before.world acts w) (sym still) b))

-- ---- kinds

-- a command that reads a justfile, isn't asked of it in its place and chooses nothing is none
pub runs_then : (s : Option Subcommand) → is_placed (kind_of s) ≡ false → reads_justfile (kind_of s) ≡ true → is_choice (kind_of s) ≡ false → kind_of s ≡ kind.Run
runs_then None placed reads given = refl
runs_then (Some (command.Choose ws)) placed reads given = absurd (let no : ⊥ = cc in no)
runs_then (Some (command.Clean ws)) placed reads given = absurd (let no : ⊥ = cc in no)
runs_then (Some (command.Command ws)) placed reads given = absurd (let no : ⊥ = cc in no)
runs_then (Some (command.Dump ws)) placed reads given = absurd (let no : ⊥ = cc in no)
runs_then (Some (command.Edit ws)) placed reads given = absurd (let no : ⊥ = cc in no)
runs_then (Some (command.Evaluate ws)) placed reads given = absurd (let no : ⊥ = cc in no)
runs_then (Some (command.Fmt ws)) placed reads given = absurd (let no : ⊥ = cc in no)
runs_then (Some (command.Groups ws)) placed reads given = absurd (let no : ⊥ = cc in no)
runs_then (Some (command.Init ws)) placed reads given = absurd (let no : ⊥ = cc in no)
runs_then (Some (command.List ws)) placed reads given = absurd (let no : ⊥ = cc in no)
runs_then (Some (command.Request ws)) placed reads given = absurd (let no : ⊥ = cc in no)
runs_then (Some (command.Show ws)) placed reads given = absurd (let no : ⊥ = cc in no)
runs_then (Some (command.Summary ws)) placed reads given = absurd (let no : ⊥ = cc in no)
runs_then (Some (command.Usage ws)) placed reads given = absurd (let no : ⊥ = cc in no)
runs_then (Some (command.Variables ws)) placed reads given = absurd (let no : ⊥ = cc in no)
runs_then (Some (command.Vectors ws)) placed reads given = absurd (let no : ⊥ = cc in no)

-- one by which something is chosen
pub chooses_then : (k : Kind) → is_choice k ≡ true → k ≡ kind.Choose
chooses_then kind.Run is = absurd (let no : ⊥ = cc in no)
chooses_then kind.New is = absurd (let no : ⊥ = cc in no)
chooses_then kind.Respond is = absurd (let no : ⊥ = cc in no)
chooses_then kind.Vectors is = absurd (let no : ⊥ = cc in no)
chooses_then kind.Format is = absurd (let no : ⊥ = cc in no)
chooses_then kind.Clean is = absurd (let no : ⊥ = cc in no)
chooses_then kind.Evaluate is = absurd (let no : ⊥ = cc in no)
chooses_then kind.Print is = absurd (let no : ⊥ = cc in no)
chooses_then kind.Choose is = refl
chooses_then kind.Edit is = absurd (let no : ⊥ = cc in no)
chooses_then kind.Command is = absurd (let no : ⊥ = cc in no)

-- one that reads no justfile, asks for no new one and tells of no run asks for a response
pub responds_then : (k : Kind) → is_new k ≡ false → reads_justfile k ≡ false → is_vectors k ≡ false → k ≡ kind.Respond
responds_then kind.Run other alone nor = absurd (let no : ⊥ = cc in no)
responds_then kind.New other alone nor = absurd (let no : ⊥ = cc in no)
responds_then kind.Respond other alone nor = refl
responds_then kind.Vectors other alone nor = absurd (let no : ⊥ = cc in no)
responds_then kind.Format other alone nor = absurd (let no : ⊥ = cc in no)
responds_then kind.Clean other alone nor = absurd (let no : ⊥ = cc in no)
responds_then kind.Evaluate other alone nor = absurd (let no : ⊥ = cc in no)
responds_then kind.Print other alone nor = absurd (let no : ⊥ = cc in no)
responds_then kind.Choose other alone nor = absurd (let no : ⊥ = cc in no)
responds_then kind.Edit other alone nor = absurd (let no : ⊥ = cc in no)
responds_then kind.Command other alone nor = absurd (let no : ⊥ = cc in no)

pub vectors_then : (k : Kind) → is_vectors k ≡ true → k ≡ kind.Vectors
vectors_then kind.Run is = absurd (let no : ⊥ = cc in no)
vectors_then kind.New is = absurd (let no : ⊥ = cc in no)
vectors_then kind.Respond is = absurd (let no : ⊥ = cc in no)
vectors_then kind.Vectors is = refl
vectors_then kind.Format is = absurd (let no : ⊥ = cc in no)
vectors_then kind.Clean is = absurd (let no : ⊥ = cc in no)
vectors_then kind.Evaluate is = absurd (let no : ⊥ = cc in no)
vectors_then kind.Print is = absurd (let no : ⊥ = cc in no)
vectors_then kind.Choose is = absurd (let no : ⊥ = cc in no)
vectors_then kind.Edit is = absurd (let no : ⊥ = cc in no)
vectors_then kind.Command is = absurd (let no : ⊥ = cc in no)

pub new_then : (k : Kind) → is_new k ≡ true → k ≡ kind.New
new_then kind.Run is = absurd (let no : ⊥ = cc in no)
new_then kind.New is = refl
new_then kind.Respond is = absurd (let no : ⊥ = cc in no)
new_then kind.Vectors is = absurd (let no : ⊥ = cc in no)
new_then kind.Format is = absurd (let no : ⊥ = cc in no)
new_then kind.Clean is = absurd (let no : ⊥ = cc in no)
new_then kind.Evaluate is = absurd (let no : ⊥ = cc in no)
new_then kind.Print is = absurd (let no : ⊥ = cc in no)
new_then kind.Choose is = absurd (let no : ⊥ = cc in no)
new_then kind.Edit is = absurd (let no : ⊥ = cc in no)
new_then kind.Command is = absurd (let no : ⊥ = cc in no)

-- ---- commands that read no justfile

module _ (k j : Kind) (is : k ≡ j) (told : Option World) (c : ConfigRequest) where
  pub alone_as : (r : Result Asked Error) → AsksAlone j told c r → AsksAlone k told c r
  alone_as r asks = subst (λ x. AsksAlone x told c r) (sym is) asks

  pub all_alone_as : (r : Result Other Error) → IfOk r (λ x. AsksAlone j told c (as_other (Ok x))) → IfOk r (λ x. AsksAlone k told c (as_other (Ok x)))
  all_alone_as (Ok x) asks = alone_as (as_other (Ok x)) asks
  all_alone_as (Err e) asks = tt

  pub unasked_as : (e : Error) → OrMemory (λ x. AsksAlone j told c (Err x)) e → OrMemory (λ x. AsksAlone k told c (Err x)) e
  unasked_as e (inl wants) = inl wants
  unasked_as e (inr asks) = inr (alone_as (Err e) asks)

  pub all_unasked_as : (r : Result Other Error) → IfErr r (OrMemory (λ x. AsksAlone j told c (Err x))) → IfErr r (OrMemory (λ x. AsksAlone k told c (Err x)))
  all_unasked_as (Ok x) asks = tt
  all_unasked_as (Err e) asks = unasked_as e asks

pub new_refused : (told : Option World) (c : ConfigRequest) (e : Error) → OrMemory (λ x. FindsFree told c.config (Err x)) e → OrMemory (λ x. AsksAlone kind.New told c (Err x)) e
new_refused told c e (inl wants) = inl wants
new_refused told c e (inr finds) = inr (Err e, finds, refl)

module _ (c : ConfigRequest) where
  abbrev answered : Result (List ℕ) Error
  answered = responded c.environ.pairs (requested (words_of c.config.subcommand))

  pub responds_so : (text : List ℕ) → answered ≡ Ok text → Responds c (Ok (Asked.other (no_run.Show (alone text))))
  responds_so text is = sym (ap (λ r. as_other (as_shown (as_printed r))) is)

  pub unresponded : (e : Error) → OrMemory (λ x. answered ≡ Err x) e → OrMemory (λ x. Responds c (Err x)) e
  unresponded e (inl wants) = inl wants
  unresponded e (inr is) = inr (sym (ap (λ r. as_other (as_shown (as_printed r))) is))

-- so many recipes are asked for, as the words count them
pub counts_so : (c : ConfigRequest) (count : ℕ) → count ≡ count_of (words_of c.config.subcommand) → Counts c (Ok (Asked.other (no_run.Vectors count)))
counts_so c count is = ap (λ n. let asked : Result Asked Error = Ok (Asked.other (no_run.Vectors n)) in asked) is

-- ---- tasks of replies

pub listed_task : (dry : Bool) (x : Replied) (p : Printed) (quiet : Bool) → x ≡ replied.List p → as_task (Ok (task.List p quiet)) ≡ as_reply dry (Ok (reply_of x))
listed_task dry x p quiet is = sym (ap (λ y. as_reply dry (Ok (reply_of y))) is)

pub planned_task : (dry : Bool) (x : Replied) (p : Plan) (jobs : Option NonZeroU64) (messages : List Bool) (t : Task) → as_task (Ok t) ≡ Ok (as_run dry (outline_of p (option_map non_zero_u64_get jobs) messages)) → x ≡ replied.Plan p jobs messages
    → as_task (Ok t) ≡ as_reply dry (Ok (reply_of x))
planned_task dry x p jobs messages t asked is = asked ∙ sym (ap (λ y. as_reply dry (Ok (reply_of y))) is)

-- a plan is run, or only told
pub run_task : (dry : Bool) (p : Plan) (jobs : Option NonZeroU64) (messages : List Bool) (quiet : Bool) → dry ≡ false → as_task (Ok (task.Run p jobs messages quiet)) ≡ Ok (as_run dry (outline_of p (option_map non_zero_u64_get jobs) messages))
run_task dry p jobs messages quiet is = sym (ap (λ (b : Bool). let into : Result Asked Error = Ok (as_run b (outline_of p (option_map non_zero_u64_get jobs) messages)) in into) is)

pub dry_task : (dry : Bool) (p : Plan) (jobs : Option NonZeroU64) (messages : List Bool) (quiet : Bool) → dry ≡ true → as_task (Ok (task.Dry p jobs messages quiet)) ≡ Ok (as_run dry (outline_of p (option_map non_zero_u64_get jobs) messages))
dry_task dry p jobs messages quiet is = sym (ap (λ (b : Bool). let into : Result Asked Error = Ok (as_run b (outline_of p (option_map non_zero_u64_get jobs) messages)) in into) is)

-- a reply to words that are chosen
pub chosen_task : (dry : Bool) (o : Option Replied) (x : Replied) (t : Task) → as_task (Ok t) ≡ as_reply dry (Ok (reply_of x)) → o ≡ Some x → as_task (Ok t) ≡ as_choice dry (as_chosen (Ok o))
chosen_task dry o x t asked is = asked ∙ sym (ap (λ (y : Option Replied). as_choice dry (as_chosen (Ok y))) is)

pub unchosen_task : (dry : Bool) (o : Option Replied) (quiet : Bool) → o ≡ None → as_task (Ok (task.Other no_run.Nothing quiet)) ≡ as_choice dry (as_chosen (Ok o))
unchosen_task dry o quiet is = sym (ap (λ (y : Option Replied). as_choice dry (as_chosen (Ok y))) is)

-- ---- what is asked of the justfile in a place

pub command_as : (k j : Kind) → k ≡ j → (q : LocatedRequest) (before after : Moment) (kept keeps : List (List ℕ)) (r : Result Other Error) → PerformsCommand j q before after kept keeps r → PerformsCommand k q before after kept keeps r
command_as k j is q before after kept keeps r performs = subst (λ x. PerformsCommand x q before after kept keeps r) (sym is) performs

module _ (q : LocatedRequest) (before after : Moment) (kept keeps : List (List ℕ)) where
  -- the justfiles are tried
  module _ (is : kind_of q.config.subcommand ≡ kind.Run) where
    abbrev Tried : List Act → Option World → Result Reply Error → Type 0
    Tried acts world x = Tries before.world acts world q x

    abbrev BeginsTrying : List Act → Option World → Type 0
    BeginsTrying acts world = BeginsTries before.world acts world q

    abbrev AsksHere : List Act → Option World → Result Asked Error → Type 0
    AsksHere acts world x = AsksAt before.world acts world q x

    abbrev BeginsHere : List Act → Option World → Type 0
    BeginsHere acts world = BeginsAsks before.world acts world q

    tried_so : (acts : List Act) (world : Option World) (x : Result Reply Error) → Tried acts world x → AsksHere acts world (as_reply q.config.dry_run x)
    tried_so acts world x tries = subst (λ k. AsksBy k before.world acts world q (as_reply q.config.dry_run x)) (sym is) (x, tries, refl)

    or_tried : (acts : List Act) (e : Error) → OrMemory (λ x. Tried acts after.world (Err x)) e → OrMemory (λ x. AsksHere acts after.world (Err x)) e
    or_tried acts e (inl wants) = inl wants
    or_tried acts e (inr tries) = inr (tried_so acts after.world (Err e) tries)

    begun_so : (acts : List Act) → BeginsTrying acts after.world → BeginsHere acts after.world
    begun_so acts begins = subst (λ k. BeginsBy k before.world acts after.world q) (sym is) begins

    pub reply_asked : (x : Reply) (a : Asked) → as_reply q.config.dry_run (Ok x) ≡ Ok a → PerformsTries q before after kept keeps (Ok x) → PerformsAsked q before after kept keeps (Ok a)
    reply_asked x a same tries = performs_as Tried AsksHere BeginsTrying BeginsHere before after kept keeps x a tries (λ acts so. subst (λ r. AsksHere acts after.world r) same (tried_so acts after.world (Ok x) so)) begun_so

    pub reply_lost : (e : Error) → PerformsTries q before after kept keeps (Err e) → PerformsAsked q before after kept keeps (Err e)
    reply_lost e tries = performs_lost Tried AsksHere BeginsTrying BeginsHere before after kept keeps e tries (λ acts why. or_tried acts e why) begun_so

  -- or by words that are chosen
  module _ (is : kind_of q.config.subcommand ≡ kind.Choose) where
    abbrev Chosen : List Act → Option World → Result (Option Reply) Error → Type 0
    Chosen acts world x = ChoosesAt before.world acts world q x

    abbrev BeginsChoosing : List Act → Option World → Type 0
    BeginsChoosing acts world = BeginsChoosesAt before.world acts world q

    abbrev AsksChosen : List Act → Option World → Result Asked Error → Type 0
    AsksChosen acts world x = AsksAt before.world acts world q x

    abbrev BeginsChosen : List Act → Option World → Type 0
    BeginsChosen acts world = BeginsAsks before.world acts world q

    chosen_so : (acts : List Act) (world : Option World) (x : Result (Option Reply) Error) → Chosen acts world x → AsksChosen acts world (as_choice q.config.dry_run x)
    chosen_so acts world x chooses = subst (λ k. AsksBy k before.world acts world q (as_choice q.config.dry_run x)) (sym is) (x, chooses, refl)

    or_chosen : (acts : List Act) (e : Error) → OrMemory (λ x. Chosen acts after.world (Err x)) e → OrMemory (λ x. AsksChosen acts after.world (Err x)) e
    or_chosen acts e (inl wants) = inl wants
    or_chosen acts e (inr chooses) = inr (chosen_so acts after.world (Err e) chooses)

    begun_chosen : (acts : List Act) → BeginsChoosing acts after.world → BeginsChosen acts after.world
    begun_chosen acts begins = subst (λ k. BeginsBy k before.world acts after.world q) (sym is) begins

    pub choice_asked : (x : Option Reply) (a : Asked) → as_choice q.config.dry_run (Ok x) ≡ Ok a → PerformsChoices q before after kept keeps (Ok x) → PerformsAsked q before after kept keeps (Ok a)
    choice_asked x a same chooses = performs_as Chosen AsksChosen BeginsChoosing BeginsChosen before after kept keeps x a chooses (λ acts so. subst (λ r. AsksChosen acts after.world r) same (chosen_so acts after.world (Ok x) so)) begun_chosen

    pub choice_lost : (e : Error) → PerformsChoices q before after kept keeps (Err e) → PerformsAsked q before after kept keeps (Err e)
    choice_lost e chooses = performs_lost Chosen AsksChosen BeginsChoosing BeginsChosen before after kept keeps e chooses (λ acts why. or_chosen acts e why) begun_chosen

  -- a command is asked of it
  module _ (k : Kind) (is : kind_of q.config.subcommand ≡ k) (placed : is_placed k ≡ true) where
    abbrev CommandsIt : List Act → Option World → Result Other Error → Type 0
    CommandsIt acts world x = CommandsAt k before.world acts world q x

    abbrev BeginsIt : List Act → Option World → Type 0
    BeginsIt acts world = BeginsCommand k before.world acts world q

    abbrev AsksPlaced : List Act → Option World → Result Asked Error → Type 0
    AsksPlaced acts world x = AsksAt before.world acts world q x

    abbrev BeginsPlaced : List Act → Option World → Type 0
    BeginsPlaced acts world = BeginsAsks before.world acts world q

    by_kind : (j : Kind) → is_placed j ≡ true → (acts : List Act) (world : Option World) (x : Result Other Error) → CommandsAt j before.world acts world q x → AsksBy j before.world acts world q (as_other x)
    by_kind kind.Format p acts world x asks = (x, asks, refl)
    by_kind kind.Clean p acts world x asks = (x, asks, refl)
    by_kind kind.Evaluate p acts world x asks = (x, asks, refl)
    by_kind kind.Print p acts world x asks = (x, asks, refl)
    by_kind kind.Run p acts world x asks = absurd (let no : ⊥ = cc in no)
    by_kind kind.New p acts world x asks = absurd (let no : ⊥ = cc in no)
    by_kind kind.Respond p acts world x asks = absurd (let no : ⊥ = cc in no)
    by_kind kind.Edit p acts world x asks = (x, asks, refl)
    by_kind kind.Command p acts world x asks = (x, asks, refl)
    by_kind kind.Choose p acts world x asks = absurd (let no : ⊥ = cc in no)
    by_kind kind.Vectors p acts world x asks = absurd (let no : ⊥ = cc in no)

    begins_by_kind : (j : Kind) → is_placed j ≡ true → (acts : List Act) (world : Option World) → BeginsCommand j before.world acts world q → BeginsBy j before.world acts world q
    begins_by_kind kind.Format p acts world begins = begins
    begins_by_kind kind.Clean p acts world begins = begins
    begins_by_kind kind.Evaluate p acts world begins = begins
    begins_by_kind kind.Print p acts world begins = begins
    begins_by_kind kind.Run p acts world begins = absurd (let no : ⊥ = cc in no)
    begins_by_kind kind.New p acts world begins = absurd (let no : ⊥ = cc in no)
    begins_by_kind kind.Respond p acts world begins = absurd (let no : ⊥ = cc in no)
    begins_by_kind kind.Edit p acts world begins = begins
    begins_by_kind kind.Command p acts world begins = begins
    begins_by_kind kind.Choose p acts world begins = absurd (let no : ⊥ = cc in no)
    begins_by_kind kind.Vectors p acts world begins = absurd (let no : ⊥ = cc in no)

    asked_so : (acts : List Act) (x : Result Other Error) → CommandsIt acts after.world x → AsksPlaced acts after.world (as_other x)
    asked_so acts x asks = subst (λ j. AsksBy j before.world acts after.world q (as_other x)) (sym is) (by_kind k placed acts after.world x asks)

    or_asked : (acts : List Act) (e : Error) → OrMemory (λ x. CommandsIt acts after.world (Err x)) e → OrMemory (λ x. AsksPlaced acts after.world (Err x)) e
    or_asked acts e (inl wants) = inl wants
    or_asked acts e (inr asks) = inr (asked_so acts (Err e) asks)

    begun_as : (acts : List Act) → BeginsIt acts after.world → BeginsPlaced acts after.world
    begun_as acts begins = subst (λ j. BeginsBy j before.world acts after.world q) (sym is) (begins_by_kind k placed acts after.world begins)

    pub command_asked : (x : Other) → PerformsCommand k q before after kept keeps (Ok x) → PerformsAsked q before after kept keeps (Ok (Asked.other x))
    command_asked x performs = performs_as CommandsIt AsksPlaced BeginsIt BeginsPlaced before after kept keeps x (Asked.other x) performs (λ acts asks. asked_so acts (Ok x) asks) begun_as

    pub command_lost : (e : Error) → PerformsCommand k q before after kept keeps (Err e) → PerformsAsked q before after kept keeps (Err e)
    command_lost e performs = performs_lost CommandsIt AsksPlaced BeginsIt BeginsPlaced before after kept keeps e performs (λ acts why. or_asked acts e why) begun_as
