-- What the preparation of a task promises, from the words and from their arguments.
use Rattle.std.specs.Prelude.{ℕ, ◌≡◌, ◌⊎◌, Bool, true, List, [], Option, Some, None, option_map, Result, Ok, Err}
use Rattle.std.specs.Int.NonZero.{non_zero_u64_get}
use Rattle.just_host_record.specs.World.{Moment}
use Rattle.just_exec.specs.declared.error.Error.{Error}
use Rattle.just_lang_types.specs.declared.recipe.Modulepath.{Modulepath}
use Rattle.just_cache_clean.specs.EntryTexts.{IsPath}
use Rattle.just_config.specs.declared.search_config.SearchConfig.TheVariants as search
use Rattle.just_cli_plan.specs.Request.{outline_of}
use Rattle.just_cli_children.specs.declared.child.Child.{Child}
use Rattle.just_cli.specs.declared.task.Other.{Other}
use Rattle.just_cli.specs.declared.task.Other.TheVariants as no_run
use Rattle.just_cli.specs.declared.task.Task.{Task}
use Rattle.just_cli.specs.declared.task.Task.TheVariants as task
use Rattle.just_host_record.specs.declared.entry.Entry.{Entry}
use Rattle.just_cli.specs.Acts.{Begun, NoAct}
use Rattle.just_cli.specs.Asked.{Asked, AsksAt, BeginsAsks, Decides, BeginsSearches, Serves, Asks, AsksGlobal, Begins, BeginsServes}
use Rattle.just_cli.specs.Preparing.{Performs, Prepares}
use Rattle.just_cli.specs.Quiet.{AsksQuiet}
use Rattle.just_cli.specs.Words.{ArgumentsRequest, ConfigRequest, LocatedRequest}

-- what a task is, and whether it heeds quiet
abbrev pub asked_in : Task → Asked
asked_in (task.Run p jobs messages quiet) = Asked.run (outline_of p (option_map non_zero_u64_get jobs) messages)
asked_in (task.Dry p jobs messages quiet) = Asked.dry (outline_of p (option_map non_zero_u64_get jobs) messages)
asked_in (task.List p quiet) = Asked.listing p
asked_in (task.Other c quiet) = Asked.other c

abbrev pub quiet_in : Task → Bool
quiet_in (task.Run p jobs messages quiet) = quiet
quiet_in (task.Dry p jobs messages quiet) = quiet
quiet_in (task.List p quiet) = quiet
quiet_in (task.Other c quiet) = quiet

abbrev pub as_task : Result Task Error → Result Asked Error
as_task (Ok t) = Ok (asked_in t)
as_task (Err e) = Err e

-- the path of the recipes whose entries go is one, where one is given
abbrev pub IsPathOrNone : Option Modulepath → Type 0
IsPathOrNone None = Unit {0}
IsPathOrNone (Some p) = IsPath p.components

-- a child has no script
abbrev pub HasNoScript : Child → Type 0
HasNoScript child = child.spec.script ≡ None

abbrev pub HasPath : Other → Type 0
HasPath no_run.Help = Unit {0}
HasPath no_run.Version = Unit {0}
HasPath (no_run.Init path) = Unit {0}
HasPath (no_run.Show p) = Unit {0}
HasPath no_run.Nothing = Unit {0}
HasPath (no_run.Write path text) = Unit {0}
HasPath (no_run.Clean folder path) = IsPathOrNone path
HasPath (no_run.Invoke child) = HasNoScript child
HasPath (no_run.Vectors count) = Unit {0}

-- it is neither the help nor the version; a path is one, and a child has no script
abbrev pub IsCommand : Other → Type 0
IsCommand no_run.Help = ⊥
IsCommand no_run.Version = ⊥
IsCommand (no_run.Init path) = Unit {0}
IsCommand (no_run.Show p) = Unit {0}
IsCommand no_run.Nothing = Unit {0}
IsCommand (no_run.Write path text) = Unit {0}
IsCommand (no_run.Clean folder path) = IsPathOrNone path
IsCommand (no_run.Invoke child) = HasNoScript child
IsCommand (no_run.Vectors count) = Unit {0}

abbrev pub IsNoQuestion : Task → Type 0
IsNoQuestion (task.Run p jobs messages quiet) = Unit {0}
IsNoQuestion (task.Dry p jobs messages quiet) = Unit {0}
IsNoQuestion (task.List p quiet) = Unit {0}
IsNoQuestion (task.Other c quiet) = IsCommand c

-- ---- preparations

-- what is asked of the justfile in a place is prepared
abbrev pub PerformsAsked : LocatedRequest → Moment → Moment → List (List ℕ) → List (List ℕ) → Result Asked Error → Type 0
PerformsAsked q before after kept keeps r = Performs (λ acts later x. AsksAt before.world acts later q x) (λ acts later. BeginsAsks before.world acts later q) before after kept keeps r

-- of what a configuration asks for nothing was begun, or the search
abbrev pub BeginsDecides : List Entry → Begun ConfigRequest
BeginsDecides listings told acts after c = NoAct told acts after c ⊎ BeginsSearches listings told acts after c

-- what a configuration asks for is prepared: the user's own justfile alone is listed for
abbrev pub PreparesConfig : ConfigRequest → Moment → Moment → List (List ℕ) → List (List ℕ) → Result Asked Error → Type 0
PreparesConfig c before after kept keeps r =
    Prepares (c.config.search_config ≡ search.GlobalJustfile) (λ listings acts later x. Decides listings before.world acts later c x) (λ listings acts later. BeginsDecides listings before.world acts later c)
    before after kept keeps r

-- what arguments ask for is prepared, and what words ask for
abbrev pub PreparesArguments : ArgumentsRequest → Moment → Moment → List (List ℕ) → List (List ℕ) → Result Asked Error → Type 0
PreparesArguments a before after kept keeps r =
    Prepares (a.arguments.global_justfile ≡ true) (λ listings acts later x. Serves listings before.world acts later a x) (λ listings acts later. BeginsServes listings before.world acts later a)
    before after kept keeps r

abbrev pub PreparesWords : List (List ℕ) → Moment → Moment → List (List ℕ) → List (List ℕ) → Result Asked Error → Type 0
PreparesWords words before after kept keeps r =
    Prepares (AsksGlobal words before.world) (Asks words before.world) (Begins words before.world) before after kept keeps r

-- Over a host that tells that before and behind, the words ask for that task. Its record gained what the preparation leaves, and the temporary folders of that are
-- kept; the help and the version leave nothing.
abbrev pub IsTask : List (List ℕ) → Moment → Moment → List (List ℕ) → List (List ℕ) → Task → Type 0
IsTask words before after kept keeps (task.Run p jobs messages quiet) = PreparesWords words before after kept keeps (Ok (asked_in (task.Run p jobs messages quiet))) × AsksQuiet words before.world quiet
IsTask words before after kept keeps (task.Dry p jobs messages quiet) = PreparesWords words before after kept keeps (Ok (asked_in (task.Dry p jobs messages quiet))) × AsksQuiet words before.world quiet
IsTask words before after kept keeps (task.List p quiet) = PreparesWords words before after kept keeps (Ok (Asked.listing p)) × AsksQuiet words before.world quiet
IsTask words before after kept keeps (task.Other no_run.Help quiet) = (after ≡ before) × (keeps ≡ kept) × Asks words before.world [] [] before.world (Ok (Asked.other no_run.Help))
IsTask words before after kept keeps (task.Other no_run.Version quiet) = (after ≡ before) × (keeps ≡ kept) × Asks words before.world [] [] before.world (Ok (Asked.other no_run.Version))
IsTask words before after kept keeps (task.Other (no_run.Init path) quiet) = PreparesWords words before after kept keeps (Ok (Asked.other (no_run.Init path))) × AsksQuiet words before.world quiet
IsTask words before after kept keeps (task.Other (no_run.Show p) quiet) = PreparesWords words before after kept keeps (Ok (Asked.other (no_run.Show p))) × AsksQuiet words before.world quiet
IsTask words before after kept keeps (task.Other no_run.Nothing quiet) = PreparesWords words before after kept keeps (Ok (Asked.other no_run.Nothing)) × AsksQuiet words before.world quiet
IsTask words before after kept keeps (task.Other (no_run.Write path text) quiet) = PreparesWords words before after kept keeps (Ok (Asked.other (no_run.Write path text))) × AsksQuiet words before.world quiet
IsTask words before after kept keeps (task.Other (no_run.Clean folder path) quiet) = PreparesWords words before after kept keeps (Ok (Asked.other (no_run.Clean folder path))) × AsksQuiet words before.world quiet × IsPathOrNone path
IsTask words before after kept keeps (task.Other (no_run.Invoke child) quiet) = PreparesWords words before after kept keeps (Ok (Asked.other (no_run.Invoke child))) × AsksQuiet words before.world quiet × HasNoScript child
IsTask words before after kept keeps (task.Other (no_run.Vectors count) quiet) = PreparesWords words before after kept keeps (Ok (Asked.other (no_run.Vectors count))) × AsksQuiet words before.world quiet
