-- What is asked of the justfiles that are tried by words that are chosen: a chooser is fed the recipes of the first, and the words that it answers are those of one
-- run.
use Rattle.std.specs.Prelude.{ℕ, ◌≡◌, ◌&&◌, ◌++◌, Bool, true, false, List, [], ◌∷◌, map, Option, Some, None, Result, Ok, Err}
use Rattle.just_host_record.specs.World.{World}
use Rattle.just_lang_types.specs.declared.project.Justfile.{out-Justfile}
use Rattle.just_lang_types.specs.declared.settings.Interpreter.{Interpreter}
use Rattle.just_lang_types.specs.Modules.{settings_of}
use Rattle.just_config.specs.declared.config.Config.{Config}
use Rattle.just_env.specs.declared.search_error.SearchError.{SearchError}
use Rattle.just_env.specs.Captures.{Capture, told_behind}
use Rattle.just_exec_work.specs.Shells.{shell}
use Rattle.just_search.specs.declared.location.Location.{Location}
use Rattle.just_search.specs.Fallback.{FallsBack}
use Rattle.just_exec.specs.Refusals.{error_of_search}
use Rattle.just_exec.specs.declared.error.Error.{Error}
use Rattle.just_cli_plan.specs.Own.{uncaptured_by}
use Rattle.just_cli_plan.specs.Pairs.{Leaves}
use Rattle.just_cli_texts.specs.Choices.{Feeds}
use Rattle.just_cli_texts.specs.Laid.{LaidRequest}
use Rattle.just_cli_children.specs.Choosers.{chooser_of, RunsChooser, BeginsChooser}
use Rattle.just_cli_children.specs.Configs.{with_words, wanted_with}
use Rattle.just_cli.specs.Acts.{Act, Step, Begun, NoAct, Looks, Behind, BeginsBehind}
use Rattle.just_cli.specs.Options.{is_lacking, lacks, allowed}
use Rattle.just_cli.specs.Replies.{Reply}
use Rattle.just_cli.specs.Request.{FindsProjectAt, RepliesTo, IsFirstAnswer, BeginsProject, BeginsPairs, BeginsFrom, acts_of_fault}
use Rattle.just_cli.specs.Words.{ConfigRequest, LocatedRequest}

-- ---- the words that are chosen

-- Of children of one program that were run to their end the acts are theirs; and where an error tells that one couldn't be, its act stands behind them.
abbrev pub AreActsBy : {A : Type 0} → List ℕ → List Capture → Result A Error → List Act → Type 0
AreActsBy program cs (Ok x) acts = acts ≡ map Act.captured cs
AreActsBy program cs (Err e) acts = acts ≡ map Act.captured cs ++ acts_of_fault program (uncaptured_by e)

-- the shell of a project's root, by which the chooser is run, and the chooser
abbrev pub shell_for : LaidRequest → Interpreter
shell_for p = shell p.wanted.flags (settings_of p.laid.justfile)

abbrev pub chooser_for : Config → LaidRequest → List ℕ
chooser_for c p = chooser_of c (out-Justfile p.laid.justfile).source

-- what it is fed, which is of the project alone
abbrev pub FeedsFor : Config → LaidRequest → Result (List ℕ) Error → Type 0
FeedsFor c p r = Feeds p.environ.pairs c p.laid r

-- the words that it answers: it is run once, in the working folder
abbrev pub AsksChooser : Config → LaidRequest → Step (List ℕ) (List (List ℕ))
AsksChooser c p told acts after input r =
    (cs : List Capture) × AreActsBy (shell_for p).command cs r acts × RunsChooser (shell_for p) p.wanted.flags.folder told (chooser_for c p) input cs r × Leaves told cs after r

abbrev pub Chooses : Config → Step LaidRequest (List (List ℕ))
Chooses c told acts after p r = Behind (Looks (λ now. FeedsFor c)) (AsksChooser c p) told acts after p r

-- ---- their run

-- the project is asked by these words, and so are those that are tried behind it
abbrev pub project_for : LaidRequest → List (List ℕ) → LaidRequest
project_for p words = record { wanted = wanted_with p.wanted words; environ = p.environ; laid = p.laid }

abbrev pub request_for : LocatedRequest → List (List ℕ) → ConfigRequest
request_for q words = record { config = with_words q.config words; environ = q.environ }

-- whether the justfile of a project sets fallback
abbrev pub falls_from : LaidRequest → Bool
falls_from p = (settings_of p.laid.justfile).fallback

-- The answer of the justfile in a place, whose project was found. Where it lacks what is asked for and sets fallback, it is that of the first of those that are
-- tried behind it that doesn't lack it, or of the last of them; or the refusal of the search for the next one.
pub data TriesBehind (c : ConfigRequest) (location : Location) (told : Option World) (acts : List Act) (after : Option World) (p : LaidRequest) (r : Result Reply Error) : Type 0 where
  stands : RepliesTo c.config told acts after p r → (lacks r && falls_from p) ≡ false → TriesBehind c location told acts after p r
  highest : (e : Error) → RepliesTo c.config told acts after p (Err e) → is_lacking e ≡ true → falls_from p ≡ true
      → FallsBack after c.config location.working_directory (Ok None) → r ≡ Err e → TriesBehind c location told acts after p r
  refused : (e : Error) (f : SearchError) → RepliesTo c.config told acts after p (Err e) → is_lacking e ≡ true → falls_from p ≡ true
      → FallsBack after c.config location.working_directory (Err f) → r ≡ Err (error_of_search f) → TriesBehind c location told acts after p r
  falls : (e : Error) (front rest : List Act) (between : Option World) (next : Location) → RepliesTo c.config told front between p (Err e) → is_lacking e ≡ true
      → falls_from p ≡ true → FallsBack between c.config location.working_directory (Ok (Some next)) → IsFirstAnswer c between rest after next r → acts ≡ front ++ rest
      → TriesBehind c location told acts after p r

-- an answer, where there is one
abbrev pub as_some : Result Reply Error → Result (Option Reply) Error
as_some (Ok x) = Ok (Some x)
as_some (Err e) = Err e

-- no word is chosen, and there is no run; or the words are those of one, which may allow that a name is missing
abbrev pub RunsWords : LocatedRequest → LaidRequest → Step (List (List ℕ)) (Option Reply)
RunsWords q p told acts after [] r = (acts ≡ []) × (after ≡ told) × (r ≡ Ok None)
RunsWords q p told acts after (w ∷ ws) r =
    (x : Result Reply Error) × TriesBehind (request_for q (w ∷ ws)) q.location told acts after (project_for p (w ∷ ws)) x × (r ≡ as_some (allowed q.config x))

abbrev pub ChoosesFor : LocatedRequest → Step LaidRequest (Option Reply)
ChoosesFor q told acts after p r = Behind (Chooses q.config) (RunsWords q p) told acts after p r

-- the project of the justfile in a place is found once: the chooser is run behind it, and the run goes on from it
abbrev pub ChoosesAt : Step LocatedRequest (Option Reply)
ChoosesAt told acts after q r = Behind FindsProjectAt (ChoosesFor q) told acts after q r

-- ---- what was begun, where memory was wanting

-- of the words that are chosen: the chooser's child was run
abbrev pub BeginsAsking : Config → LaidRequest → Begun (List ℕ)
BeginsAsking c p told acts after input =
    (cs : List Capture) × (acts ≡ map Act.captured cs) × (after ≡ told_behind told cs) × BeginsChooser (shell_for p) p.wanted.flags.folder told (chooser_for c p) input cs

abbrev pub BeginsChooses : Config → Begun LaidRequest
BeginsChooses c told acts after p = BeginsBehind NoAct (Looks (λ now. FeedsFor c)) (BeginsAsking c p) told acts after p

-- of their run: dotenv pairs were loaded for the project; or it lacks what is asked for, and one that is tried behind it was begun
pub data BeginsTriesBehind (c : ConfigRequest) (location : Location) (told : Option World) (acts : List Act) (after : Option World) (p : LaidRequest) : Type 0 where
  at_first : BeginsPairs told acts after p → BeginsTriesBehind c location told acts after p
  at_next : (e : Error) (front rest : List Act) (between : Option World) (next : Location) → RepliesTo c.config told front between p (Err e) → is_lacking e ≡ true
      → falls_from p ≡ true → FallsBack between c.config location.working_directory (Ok (Some next)) → BeginsFrom c between rest after next → acts ≡ front ++ rest
      → BeginsTriesBehind c location told acts after p

abbrev pub BeginsWords : LocatedRequest → LaidRequest → Begun (List (List ℕ))
BeginsWords q p told acts after [] = (acts ≡ []) × (after ≡ told)
BeginsWords q p told acts after (w ∷ ws) = BeginsTriesBehind (request_for q (w ∷ ws)) q.location told acts after (project_for p (w ∷ ws))

abbrev pub BeginsChoosesFor : LocatedRequest → Begun LaidRequest
BeginsChoosesFor q told acts after p = BeginsBehind (BeginsChooses q.config) (Chooses q.config) (BeginsWords q p) told acts after p

abbrev pub BeginsChoosesAt : Begun LocatedRequest
BeginsChoosesAt told acts after q = BeginsBehind BeginsProject FindsProjectAt (BeginsChoosesFor q) told acts after q
