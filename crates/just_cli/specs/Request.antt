-- What is asked of the justfiles that are tried: steps from the place of one to the listing of a module, to the plan of a run, or to a refusal.
use Rattle.std.specs.Prelude.{ℕ, ◌≡◌, ◌⊎◌, ◌++◌, Bool, true, false, List, [], ◌∷◌, map, Option, Some, None, Result, Ok, Err}
use Rattle.std.specs.List.{list_any, flat_map, AllByRecursion}
use Rattle.just_host_record.specs.declared.entry.Entry.{Entry}
use Rattle.just_host_record.specs.declared.entry.HostFault.{HostFault}
use Rattle.just_host_record.specs.Record.{is_failed}
use Rattle.just_host_record.specs.World.{World}
use Rattle.just_search.specs.Listing.{is_refused_listing}
use Rattle.just_env.specs.declared.search_error.SearchError.{SearchError}
use Rattle.just_search_load.specs.Loads.{Loads}
use Rattle.just_exec.specs.Refusals.{error_of_search}
use Rattle.just_exec.specs.declared.error.Error.{Error}
use Rattle.just_env.specs.Captures.{Capture, told_behind}
use Rattle.just_env.specs.Loads.{IsShellOf}
use Rattle.just_exec_work.specs.declared.run_flags.RunFlags.{RunFlags}
use Rattle.just_cli_plan.specs.Own.{uncaptured_by}
use Rattle.just_cli_plan.specs.Pairs.{Leaves, BeginsLoading}
use Rattle.just_cli_plan.specs.Steps.{Then}
use Rattle.just_cli_plan.specs.Request.{SourcesRequest, ProjectRequest, LoadedRequest, LoadsDotenv}
use Rattle.just_search.specs.declared.location.Location.{Location}
use Rattle.just_search.specs.Fallback.{FallsBack}
use Rattle.just_lang_types.specs.declared.project.Justfile.{Justfile}
use Rattle.just_lang_types.specs.Modules.{settings_of, AreModules}
use Rattle.just_config.specs.declared.config.Config.{Config}
use Rattle.just_cli_texts.specs.Laid.{LaidRequest, project_with, FindsLaid}
use Rattle.just_cli.specs.Acts.{Act, Step, Begun, NoAct, Looks, Behind, BeginsBehind}
use Rattle.just_cli.specs.Options.{lacks, allowed}
use Rattle.just_cli.specs.Replies.{Reply, RepliesLoaded}
use Rattle.just_cli.specs.Words.{ConfigRequest, LocatedRequest, JustfileRequest, TakesFile, BeginsFile}

-- ---- from the place of a justfile to its plan

-- the justfile is loaded, and all files that it leads to; over a host that tells this world, if it tells one
abbrev pub LoadsSources : Option World → JustfileRequest → Result SourcesRequest Error → Type 0
LoadsSources told j (Ok s) = (s.wanted ≡ j.wanted) × (s.environ ≡ j.environ) × Loads told j.environ.pairs [] (j.justfile ∷ []) (Ok s.sources)
LoadsSources told j (Err e) = (f : SearchError) × Loads told j.environ.pairs [] (j.justfile ∷ []) (Err f) × (e ≡ error_of_search f)

-- the project of a justfile, with the layout of its sources
abbrev pub FindsProjectOf : Option World → JustfileRequest → Result LaidRequest Error → Type 0
FindsProjectOf told = Then (LoadsSources told) FindsLaid

-- the project of the justfile in a place
abbrev pub FindsProjectAt : Step LocatedRequest LaidRequest
FindsProjectAt = Behind TakesFile (Looks FindsProjectOf)

-- the act of a child of that program that couldn't be run to its end, where a fault tells why
abbrev pub acts_of_fault : List ℕ → Option HostFault → List Act
acts_of_fault program None = []
acts_of_fault program (Some io) = Act.uncaptured program ∷ []

-- Of these children that were run to their end the acts are theirs; and where an error tells that one couldn't be, its act stands behind them: it has the
-- program of the shell of a module.
abbrev pub AreActsOf : {A : Type 0} → RunFlags → Justfile → List Capture → Result A Error → List Act → Type 0
AreActsOf flags j cs (Ok x) acts = acts ≡ map Act.captured cs
AreActsOf flags j cs (Err e) acts =
    (program : List ℕ) × IsShellOf flags j program
    × (acts ≡ map Act.captured cs ++ acts_of_fault program (uncaptured_by e))

-- the dotenv pairs of the project's modules, for which commands are run
abbrev pub LoadsPairs : Step ProjectRequest LoadedRequest
LoadsPairs told acts after p r =
    (cs : List Capture) × AreActsOf p.wanted.flags p.justfile cs r acts × LoadsDotenv told cs p r × Leaves told cs after r

-- a step from a project, by the list of its modules
abbrev pub WithModules : {B : Type 0} → Step ProjectRequest B → Step LaidRequest B
WithModules step told acts after q r = (modules : List Justfile) × AreModules (q.laid.justfile ∷ []) modules × step told acts after (project_with q modules) r

-- the reply behind the project, by what a configuration says
abbrev pub RepliesTo : Config → Step LaidRequest Reply
RepliesTo c told acts after q r = WithModules (Behind LoadsPairs (Looks (λ now. RepliesLoaded c q))) told acts after q r

-- ---- the justfiles that are tried

-- the answer to what is asked of the justfile in a place, and whether that justfile sets fallback; one whose project is refused sets none
pub data AnswersAt (told : Option World) (acts : List Act) (after : Option World) (q : LocatedRequest) (r : Result Reply Error) (fallback : Bool) : Type 0 where
  no_project : (e : Error) → FindsProjectAt told acts after q (Err e) → r ≡ Err e → fallback ≡ false → AnswersAt told acts after q r fallback
  of_project : (p : LaidRequest) (front rest : List Act) (between : Option World) → FindsProjectAt told front between q (Ok p) → RepliesTo q.config between rest after p r → acts ≡ front ++ rest
      → fallback ≡ (settings_of p.laid.justfile).fallback → AnswersAt told acts after q r fallback

-- a place in which a configuration asks something of the justfile
abbrev pub at_place : ConfigRequest → Location → LocatedRequest
at_place c location = record { config = c.config; environ = c.environ; location = location }

-- one that may be tried: the justfile in a place, or the refusal of the search for it
abbrev pub Item : Type 0
Item = Result Location SearchError

-- One that is tried, in the world that is told then; with the acts that it takes, the world that is told behind these, its answer, and whether it sets fallback.
pub record Tried : Type 0 where
  pub item : Item
  pub told : Option World
  pub acts : List Act
  pub after : Option World
  pub answer : Result Reply Error
  pub fallback : Bool

-- a justfile has its answer; a refusal answers itself, and takes no act
abbrev pub AnswersSelf : ConfigRequest → Tried → Item → Type 0
AnswersSelf c t (Ok location) = AnswersAt t.told t.acts t.after (at_place c location) t.answer t.fallback
AnswersSelf c t (Err e) = (t.acts ≡ []) × (t.after ≡ t.told) × (t.answer ≡ Err (error_of_search e)) × (t.fallback ≡ false)

-- it is that one, tried in that world
abbrev pub IsTried : ConfigRequest → Tried → Option World → Item → Type 0
IsTried c t told item = (t.item ≡ item) × (t.told ≡ told) × AnswersSelf c t item

-- what the search behind a justfile gives to be tried next, if anything
abbrev pub item_found : Result (Option Location) SearchError → Option Item
item_found (Ok None) = None
item_found (Ok (Some location)) = Some (Ok location)
item_found (Err e) = Some (Err e)

-- what stands behind one that is tried, if anything does: behind a justfile that sets fallback what is found in the world that is told then
pub data StandsBehind (c : ConfigRequest) (t : Tried) (next : Option Item) : Type 0 where
  nothing : t.fallback ≡ false → next ≡ None → StandsBehind c t next
  found : (location : Location) (r : Result (Option Location) SearchError) → t.item ≡ Ok location → t.fallback ≡ true
      → FallsBack t.after c.config location.working_directory r → next ≡ item_found r → StandsBehind c t next

-- Some are tried from one on, each behind the one before and in the world that is told behind that, and all of them lack what is asked for. The next
-- one is reached so.
abbrev pub ComesTo : ConfigRequest → (Option World → Item → Type 0) → Option World → Item → List Tried → Type 0
ComesTo c reached told item [] = reached told item
ComesTo c reached told item (t ∷ ts) =
    IsTried c t told item × (lacks t.answer ≡ true) × ((next : Item) × StandsBehind c t (Some next) × ComesTo c reached t.after next ts)

-- the acts of some, one behind the other
abbrev pub acts_of : List Tried → List Act
acts_of ts = flat_map (λ t. t.acts) ts

-- The answer of the first of those that are tried from a place on that doesn't lack what is asked for; or of the last of them, behind which nothing
-- stands. Nothing is looked at, and no act is taken, for one that stands behind it.
pub record IsFirstAnswer (c : ConfigRequest) (told : Option World) (acts : List Act) (after : Option World) (location : Location) (r : Result Reply Error) : Type 0 where
  pub before : List Tried
  pub it : Tried
  pub comes : ComesTo c (λ now item. IsTried c it now item) told (Ok location) before
  pub acts_are : acts ≡ acts_of before ++ it.acts
  pub after_is : after ≡ it.after
  pub first_or_last : (lacks it.answer ≡ false) ⊎ StandsBehind c it None
  pub answer : r ≡ it.answer

-- the same from the place of the first of them, which the words may allow
abbrev pub Tries : Step LocatedRequest Reply
Tries told acts after q r =
    (x : Result Reply Error) × IsFirstAnswer (record { config = q.config; environ = q.environ }) told acts after q.location x × (r ≡ allowed q.config x)

-- ---- refused listings

-- entries of listings that were refused and passed over: there are none, unless the user's own justfile was looked for
abbrev pub ArePassed : Type 0 → List Entry → Type 0
ArePassed global listings = (listings ≡ []) ⊎ (global × AllByRecursion (λ e. is_refused_listing e ≡ true) listings)

-- none of these listings failed
abbrev pub NoneFailed : List Entry → Type 0
NoneFailed listings = list_any is_failed listings ≡ false

-- ---- what was begun, where memory was wanting

-- of the project of the justfile in a place, and of its dotenv pairs: children were run for these, and the world is told that is told behind the last of them
abbrev pub BeginsProject : Begun LocatedRequest
BeginsProject = BeginsBehind BeginsFile TakesFile NoAct

abbrev pub BeginsPairs : Begun LaidRequest
BeginsPairs told acts after p =
    (cs : List Capture) × (acts ≡ map Act.captured cs) × (after ≡ told_behind told cs) × BeginsLoading told p.wanted p.environ p.laid.justfile cs

-- of one that is tried: its project is found, and pairs are loaded; behind these nothing is done
abbrev pub BeginsAt : Begun LocatedRequest
BeginsAt = BeginsBehind BeginsProject FindsProjectAt BeginsPairs

abbrev pub BeginsItem : ConfigRequest → Option World → List Act → Option World → Item → Type 0
BeginsItem c told acts after (Ok location) = BeginsAt told acts after (at_place c location)
BeginsItem c told acts after (Err e) = (acts ≡ []) × (after ≡ told)

-- of those that are tried from a place on: some lack what is asked for, and one behind these was begun
abbrev pub BeginsFrom : ConfigRequest → Option World → List Act → Option World → Location → Type 0
BeginsFrom c told acts after location =
    (before : List Tried) × (rest : List Act) × ComesTo c (λ now item. BeginsItem c now rest after item) told (Ok location) before × (acts ≡ acts_of before ++ rest)

abbrev pub BeginsTries : Begun LocatedRequest
BeginsTries told acts after q = BeginsFrom (record { config = q.config; environ = q.environ }) told acts after q.location
