-- The file of a justfile in a place, as a part of a preparation.
use Rattle.std.specs.Prelude.{ℕ, ◌≡◌, ◌&&◌, ◌++◌, Bool, true, false, List, [], Option, Some, None, Result, Ok, Err}
use Rattle.just_path_text.specs.declared.environ.Environ.{Environ}
use Rattle.just_host_record.specs.World.{World, Moment}
use Rattle.just_config.specs.declared.config.Config.{Config}
use Rattle.just_search.specs.declared.location.Location.{Location}
use Rattle.just_exec.specs.declared.error.Error.{Error}
use Rattle.just_cli_plan.specs.declared.wanted.Wanted.{Wanted}
use Rattle.just_cli_plan.specs.Request.{LoadedRequest, ScopesRequest}
use Rattle.just_lang_types.specs.declared.project.Justfile.{Justfile}
use Rattle.just_lang_types.specs.declared.scope.DotenvOf.{DotenvOf}
use Rattle.just_lang_types.specs.declared.scope.Scopes.{Scopes}
use Rattle.just_cli.specs.Acts.{Act}
use Rattle.just_env.specs.declared.search_error.SearchError.{SearchError}
use Rattle.just_search.specs.Fallback.{FallsBack}
use Rattle.just_exec.specs.Refusals.{error_of_search}
use Rattle.just_lang.specs.declared.laid.LaidJustfile.{LaidJustfile}
use Rattle.just_cli_texts.specs.declared.kind.Kind.{Kind}
use Rattle.just_cli_texts.specs.Laid.{laid_by, LaidRequest}
use Rattle.just_cli.specs.declared.task.Other.{Other}
use Rattle.just_cli.specs.Choosing.{AsksChooser, BeginsAsking, Chooses, BeginsChooses, TriesBehind, BeginsTriesBehind, RunsWords, BeginsWords, ChoosesAt, BeginsChoosesAt}
use Rattle.just_cli.specs.Commands.{EvaluatesLaid, InvokesLaid, CommandsAt, BeginsCommand}
use Rattle.just_cli.specs.Replies.{Reply}
use Rattle.just_cli.specs.Options.{is_lacking, lacks, allowed}
use Rattle.just_cli.specs.Preparing.{Performs}
use Rattle.just_cli.specs.Request.{FindsProjectAt, RepliesTo, AnswersAt, at_place, Tries, BeginsProject, BeginsPairs, BeginsFrom, BeginsTries}
use Rattle.just_cli.specs.Words.{ConfigRequest, LocatedRequest, TakesFile}

-- whatever the environment is, the justfile in a place is taken as a file, of which that is asked
abbrev pub TakesWanted : Config → Location → Option World → List Act → Option World → Result (Wanted × List ℕ) Error → Type 0
TakesWanted config location told acts after (Ok j) =
    (environ : Environ) → TakesFile told acts after (record { config = config; environ = environ; location = location }) (Ok (record { wanted = j.0; environ = environ; justfile = j.1 }))
TakesWanted config location told acts after (Err e) = (environ : Environ) → TakesFile told acts after (record { config = config; environ = environ; location = location }) (Err e)

-- ---- the project in a place, as a part of a preparation

-- what is known behind its sources, behind the dotenv pairs of its modules, and behind the values of its variables
abbrev pub laid_in : Wanted → Environ → LaidJustfile → LaidRequest
laid_in wanted environ l = record { wanted = wanted; environ = environ; laid = laid_by l }

abbrev pub loaded_in : Wanted → Environ → LaidJustfile → List Justfile → List DotenvOf → LoadedRequest
loaded_in wanted environ l modules dotenv = record { wanted = wanted; environ = environ; justfile = l.justfile; modules = modules; dotenv = dotenv }

abbrev pub scopes_in : Wanted → LaidJustfile → List Justfile → Scopes → ScopesRequest
scopes_in wanted l modules scopes = record { wanted = wanted; justfile = l.justfile; modules = modules; scopes = scopes }

-- what is asked of a project, and the project, over an environment
abbrev pub as_laid : Environ → Result (Wanted × LaidJustfile) Error → Result LaidRequest Error
as_laid environ (Ok x) = Ok (laid_in x.0 environ x.1)
as_laid environ (Err e) = Err e

abbrev pub PerformsProject : LocatedRequest → Moment → Moment → List (List ℕ) → List (List ℕ) → Result LaidRequest Error → Type 0
PerformsProject q before after kept keeps r =
    Performs (λ acts later x. FindsProjectAt before.world acts later q x) (λ acts later. BeginsProject before.world acts later q) before after kept keeps r

-- what a command asks of the justfile there
abbrev pub PerformsCommand : Kind → LocatedRequest → Moment → Moment → List (List ℕ) → List (List ℕ) → Result Other Error → Type 0
PerformsCommand k q before after kept keeps r =
    Performs (λ acts later x. CommandsAt k before.world acts later q x) (λ acts later. BeginsCommand k before.world acts later q) before after kept keeps r

-- what is printed of the values of its variables; no temporary folder is made for them
abbrev pub PerformsValues : Config → LaidRequest → Moment → Moment → Result Other Error → Type 0
PerformsValues c q before after r = Performs (λ acts later x. EvaluatesLaid c before.world acts later q x) (λ acts later. BeginsPairs before.world acts later q) before after [] [] r

-- the child of a command's words; no temporary folder is made for it
abbrev pub PerformsInvocation : Config → LaidRequest → Moment → Moment → Result Other Error → Type 0
PerformsInvocation c q before after r = Performs (λ acts later x. InvokesLaid c before.world acts later q x) (λ acts later. BeginsPairs before.world acts later q) before after [] [] r

-- ---- the reply of a project, as a part of a preparation

-- what was begun of it
abbrev pub BeginsIt : LaidRequest → Option World → List Act → Option World → Type 0
BeginsIt q told acts after = BeginsPairs told acts after q

-- it makes no temporary folder
abbrev pub PerformsReply : Config → LaidRequest → Moment → Moment → Result Reply Error → Type 0
PerformsReply c q before after r = Performs (λ acts later x. RepliesTo c before.world acts later q x) (BeginsIt q before.world) before after [] [] r

-- ---- the justfiles that are tried, as parts of a preparation

-- The justfiles that are tried from a place on, and the answer of the last of them. Behind one that sets fallback and lacks what is asked for stands the
-- next one, in the world that is told then. Nothing is looked at and no act is taken for one that stands behind the one that answers.
pub data TriesFrom (c : ConfigRequest) : Option World → List Act → Option World → Location → Result Reply Error → Type 0 where
  stands : (told after : Option World) (acts : List Act) (location : Location) (r : Result Reply Error) (fallback : Bool)
      → AnswersAt told acts after (at_place c location) r fallback → (lacks r && fallback) ≡ false → TriesFrom c told acts after location r
  highest : (told after : Option World) (acts : List Act) (location : Location) (e : Error) → AnswersAt told acts after (at_place c location) (Err e) true → is_lacking e ≡ true
      → FallsBack after c.config location.working_directory (Ok None) → TriesFrom c told acts after location (Err e)
  refused : (told after : Option World) (acts : List Act) (location : Location) (e : Error) (f : SearchError) → AnswersAt told acts after (at_place c location) (Err e) true → is_lacking e ≡ true
      → FallsBack after c.config location.working_directory (Err f) → TriesFrom c told acts after location (Err (error_of_search f))
  falls : (told between after : Option World) (acts front rest : List Act) (location next : Location) (e : Error) (r : Result Reply Error)
      → AnswersAt told front between (at_place c location) (Err e) true → is_lacking e ≡ true → FallsBack between c.config location.working_directory (Ok (Some next))
      → TriesFrom c between rest after next r → acts ≡ front ++ rest → TriesFrom c told acts after location r

-- what is asked of them from a place on
abbrev pub PerformsFrom : ConfigRequest → Location → Moment → Moment → List (List ℕ) → List (List ℕ) → Result Reply Error → Type 0
PerformsFrom c location before after kept keeps r =
    Performs (λ acts later x. TriesFrom c before.world acts later location x) (λ acts later. BeginsFrom c before.world acts later location) before after kept keeps r

-- the justfile in a place sets fallback and lacks what is asked for, and the next one is tried
abbrev pub FallsTo : ConfigRequest → Location → Option World → List Act → Option World → Location → Type 0
FallsTo c location told acts after next =
    (e : Error) × AnswersAt told acts after (at_place c location) (Err e) true × (is_lacking e ≡ true) × FallsBack after c.config location.working_directory (Ok (Some next))

abbrev pub FallsOn : ConfigRequest → Location → Option World → List Act → Option World → Result Location Error → Type 0
FallsOn c location told acts after (Ok next) = FallsTo c location told acts after next
FallsOn c location told acts after (Err e) = ⊥

abbrev pub PerformsFall : ConfigRequest → Location → Moment → Moment → List (List ℕ) → List (List ℕ) → Location → Type 0
PerformsFall c location before after kept keeps next =
    Performs (FallsOn c location before.world) (λ acts later. BeginsFrom c before.world acts later location) before after kept keeps (Ok next)

-- what is asked of them, which the words may allow
abbrev pub PerformsTries : LocatedRequest → Moment → Moment → List (List ℕ) → List (List ℕ) → Result Reply Error → Type 0
PerformsTries q before after kept keeps r =
    Performs (λ acts later x. Tries before.world acts later q x) (λ acts later. BeginsTries before.world acts later q) before after kept keeps r

-- ---- words that are chosen, as parts of a preparation

-- the words; no temporary folder is made for them
abbrev pub PerformsChoosing : Config → LaidRequest → Moment → Moment → Result (List (List ℕ)) Error → Type 0
PerformsChoosing c q before after r = Performs (λ acts later x. Chooses c before.world acts later q x) (λ acts later. BeginsChooses c before.world acts later q) before after [] [] r

-- what a chooser answers that is fed that
abbrev pub PerformsAnswer : Config → LaidRequest → List ℕ → Moment → Moment → Result (List (List ℕ)) Error → Type 0
PerformsAnswer c q input before after r =
    Performs (λ acts later x. AsksChooser c q before.world acts later input x) (λ acts later. BeginsAsking c q before.world acts later input) before after [] [] r

-- what is asked of a project that was found in a place, and of those that are tried behind it
abbrev pub PerformsBehind : ConfigRequest → Location → LaidRequest → Moment → Moment → List (List ℕ) → List (List ℕ) → Result Reply Error → Type 0
PerformsBehind c location p before after kept keeps r =
    Performs (λ acts later x. TriesBehind c location before.world acts later p x) (λ acts later. BeginsTriesBehind c location before.world acts later p) before after kept keeps r

-- the same, which the words may allow
abbrev pub PerformsAllowed : ConfigRequest → Location → LaidRequest → Moment → Moment → List (List ℕ) → List (List ℕ) → Result Reply Error → Type 0
PerformsAllowed c location p before after kept keeps r =
    Performs (λ acts later x. (y : Result Reply Error) × TriesBehind c location before.world acts later p y × (x ≡ allowed c.config y))
    (λ acts later. BeginsTriesBehind c location before.world acts later p) before after kept keeps r

-- the same by words that are chosen
abbrev pub PerformsWords : LocatedRequest → LaidRequest → List (List ℕ) → Moment → Moment → List (List ℕ) → List (List ℕ) → Result (Option Reply) Error → Type 0
PerformsWords q p words before after kept keeps r =
    Performs (λ acts later x. RunsWords q p before.world acts later words x) (λ acts later. BeginsWords q p before.world acts later words) before after kept keeps r

-- all of it: there is a reply where a word is chosen
abbrev pub PerformsChoices : LocatedRequest → Moment → Moment → List (List ℕ) → List (List ℕ) → Result (Option Reply) Error → Type 0
PerformsChoices q before after kept keeps r =
    Performs (λ acts later x. ChoosesAt before.world acts later q x) (λ acts later. BeginsChoosesAt before.world acts later q) before after kept keeps r
