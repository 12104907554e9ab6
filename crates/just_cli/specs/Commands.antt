-- What commands ask of a justfile: steps from its place to what is to be done, or to a refusal.
use Rattle.std.specs.Prelude.{ℕ, ◌≡◌, Bool, true, false, if◌then◌else◌, List, Option, Some, None, Result, Ok, Err, bytes_eq}
use Rattle.just_host_record.specs.World.{World}
use Rattle.just_lang_types.specs.declared.recipe.Modulepath.{Modulepath}
use Rattle.just_config.specs.declared.config.Config.{Config}
use Rattle.just_env.specs.declared.search_error.SearchError.{SearchError}
use Rattle.just_search.specs.declared.location.Origin.{Origin}
use Rattle.just_search.specs.declared.location.Origin.TheVariants as origin
use Rattle.just_search_load.specs.Loads.{source_at}
use Rattle.just_search_load.specs.Shown.{ReadsText}
use Rattle.just_exec.specs.Refusals.{error_of_search}
use Rattle.just_exec.specs.declared.error.Error.{Error}
use Rattle.just_exec.specs.declared.error.Error.TheVariants as error
use Rattle.just_cli_plan.specs.Request.{ScopesRequest, EvaluatesVariables}
use Rattle.just_cli_plan.specs.Steps.{Then}
use Rattle.just_cli_texts.specs.declared.kind.Kind.{Kind}
use Rattle.just_cli_texts.specs.declared.kind.Kind.TheVariants as kind
use Rattle.just_cli_texts.specs.declared.printed.Printed.{Printed}
use Rattle.just_cli_texts.specs.Evaluated.{names_of_words, format_of, EvaluatesNames}
use Rattle.just_cli_texts.specs.Formatted.{Formats}
use Rattle.just_cli_texts.specs.Kinds.{words_of}
use Rattle.just_cli_texts.specs.Laid.{LaidRequest}
use Rattle.just_cli_texts.specs.Prints.{alone, as_printed, Prints}
use Rattle.just_cli_texts.specs.Targets.{names_of}
use Rattle.just_cli_children.specs.Children.{editor_child, words_child}
use Rattle.just_cli.specs.declared.task.Other.{Other}
use Rattle.just_cli.specs.declared.task.Other.TheVariants as no_run
use Rattle.just_cli.specs.Acts.{Step, Begun, NoAct, Looks, Behind, BeginsBehind}
use Rattle.just_cli_children.specs.Configs.{is_any}
use Rattle.just_cli.specs.Request.{FindsProjectAt, WithModules, LoadsPairs, BeginsProject, BeginsAt}
use Rattle.just_cli.specs.Words.{LocatedRequest, JustfileRequest, TakesFile, BeginsFile}

-- what is printed is to be printed
abbrev pub as_shown : Result Printed Error → Result Other Error
as_shown (Ok p) = Ok (no_run.Show p)
as_shown (Err e) = Err e

-- ---- a text of the project alone

abbrev pub PrintsIt : Config → LaidRequest → Result Other Error → Type 0
PrintsIt c q r = (x : Result Printed Error) × Prints q.environ.pairs c q.laid x × (r ≡ as_shown x)

abbrev pub PrintsAt : Step LocatedRequest Other
PrintsAt told acts after q r = Behind FindsProjectAt (Looks (λ now. PrintsIt q.config)) told acts after q r

-- ---- the values of variables, behind the dotenv pairs

abbrev pub EvaluatesIt : Config → ScopesRequest → Result Other Error → Type 0
EvaluatesIt c s r =
    (x : Result (List ℕ) Error) × EvaluatesNames (format_of c) s.modules s.scopes s.justfile (names_of_words s.wanted.words) x × (r ≡ as_shown (as_printed x))

abbrev pub EvaluatesLaid : Config → Step LaidRequest Other
EvaluatesLaid c told acts after q r = WithModules (Behind LoadsPairs (Looks (λ now. Then EvaluatesVariables (EvaluatesIt c)))) told acts after q r

abbrev pub EvaluatesAt : Step LocatedRequest Other
EvaluatesAt told acts after q r = Behind FindsProjectAt (EvaluatesLaid q.config) told acts after q r

-- ---- the cache of the project's recipes

-- the path of the recipes whose entries go; all go where no names are given
abbrev pub path_if : List (List ℕ) → Option Modulepath
path_if names = if is_any names then Some (record { components = names }) else None

abbrev pub CleansIt : Config → LaidRequest → Result Other Error → Type 0
CleansIt c q r = r ≡ Ok (no_run.Clean q.wanted.cache_folder (path_if (names_of (words_of c.subcommand))))

abbrev pub CleansAt : Step LocatedRequest Other
CleansAt told acts after q r = Behind FindsProjectAt (Looks (λ now. CleansIt q.config)) told acts after q r

-- ---- the justfile in one style: it is only parsed

-- whether a justfile is a file of its own
abbrev pub is_file : Origin → Bool
is_file (origin.File path) = true
is_file (origin.Markdown path) = false
is_file origin.StandardInput = false

-- a text that is only checked is the same, or refused
abbrev pub checked : Bool → Result Other Error
checked same = if same then Ok no_run.Nothing else Err error.FormatCheckFoundDiff

-- what is done with the new text of a file, beside the old one: it is written, where it differs, or printed, where the justfile is no file of its own;
-- where the words only ask whether it differs, it must not
abbrev pub anew : Bool → Bool → List ℕ → List ℕ → List ℕ → Result Other Error
anew check file path old new =
    if check then checked (bytes_eq new old)
    else (if file then (if bytes_eq new old then Ok no_run.Nothing else Ok (no_run.Write path new)) else Ok (no_run.Show (alone new)))

abbrev pub anew_or : Bool → Bool → List ℕ → List ℕ → Result (List ℕ) Error → Result Other Error
anew_or check file path old (Ok new) = anew check file path old new
anew_or check file path old (Err e) = Err e

-- the text of a file is read, and made anew; or one of both is refused
pub data FormatsFile (told : Option World) (c : Config) (from : Origin) (j : JustfileRequest) (r : Result Other Error) : Type 0 where
  unread : (f : SearchError) → ReadsText told j.justfile (Err f) → r ≡ Err (error_of_search f) → FormatsFile told c from j r
  read : (text : List ℕ) (x : Result (List ℕ) Error) → ReadsText told j.justfile (Ok text) → Formats c j.environ.pairs (source_at j.justfile text) x → r ≡ anew_or c.check (is_file from) j.justfile text x
      → FormatsFile told c from j r

abbrev pub FormatsAt : Step LocatedRequest Other
FormatsAt told acts after q r = Behind TakesFile (Looks (λ now. FormatsFile now q.config q.location.origin)) told acts after q r

-- ---- the justfile in an editor: it is only found

abbrev pub EditsIt : JustfileRequest → Result Other Error → Type 0
EditsIt j r = r ≡ Ok (no_run.Invoke (editor_child j.environ.pairs j.wanted.flags.folder j.justfile))

abbrev pub EditsAt : Step LocatedRequest Other
EditsAt told acts after q r = Behind TakesFile (Looks (λ now. EditsIt)) told acts after q r

-- ---- the words of a command in the environment of the root, behind the values of the variables

abbrev pub InvokesIt : Config → ScopesRequest → Result Other Error → Type 0
InvokesIt c s r = r ≡ Ok (no_run.Invoke (words_child c s.wanted.flags s.scopes s.justfile))

abbrev pub InvokesLaid : Config → Step LaidRequest Other
InvokesLaid c told acts after q r = WithModules (Behind LoadsPairs (Looks (λ now. Then EvaluatesVariables (InvokesIt c)))) told acts after q r

abbrev pub InvokesAt : Step LocatedRequest Other
InvokesAt told acts after q r = Behind FindsProjectAt (InvokesLaid q.config) told acts after q r

-- ---- by what a command does

-- a command that reads a justfile asks this of the one in a place
abbrev pub CommandsAt : Kind → Step LocatedRequest Other
CommandsAt kind.Print told acts after q r = PrintsAt told acts after q r
CommandsAt kind.Evaluate told acts after q r = EvaluatesAt told acts after q r
CommandsAt kind.Clean told acts after q r = CleansAt told acts after q r
CommandsAt kind.Format told acts after q r = FormatsAt told acts after q r
CommandsAt kind.Run told acts after q r = ⊥
CommandsAt kind.New told acts after q r = ⊥
CommandsAt kind.Respond told acts after q r = ⊥
CommandsAt kind.Edit told acts after q r = EditsAt told acts after q r
CommandsAt kind.Command told acts after q r = InvokesAt told acts after q r
CommandsAt kind.Choose told acts after q r = ⊥
CommandsAt kind.Vectors told acts after q r = ⊥

-- what was begun of it, where memory was wanting
abbrev pub BeginsCommand : Kind → Begun LocatedRequest
BeginsCommand kind.Print told acts after q = BeginsBehind BeginsProject FindsProjectAt NoAct told acts after q
BeginsCommand kind.Evaluate told acts after q = BeginsAt told acts after q
BeginsCommand kind.Clean told acts after q = BeginsBehind BeginsProject FindsProjectAt NoAct told acts after q
BeginsCommand kind.Format told acts after q = BeginsBehind BeginsFile TakesFile NoAct told acts after q
BeginsCommand kind.Run told acts after q = ⊥
BeginsCommand kind.New told acts after q = ⊥
BeginsCommand kind.Respond told acts after q = ⊥
BeginsCommand kind.Edit told acts after q = BeginsBehind BeginsFile TakesFile NoAct told acts after q
BeginsCommand kind.Command told acts after q = BeginsAt told acts after q
BeginsCommand kind.Choose told acts after q = ⊥
BeginsCommand kind.Vectors told acts after q = ⊥
