-- What is loaded over a told world is one thing.
use Rattle.std.specs.Prelude.{◌≡◌, Bool, true, false, List, ◌++◌, Some, Result, Ok, Err}
use Rattle.just_host_record.specs.declared.entry.HostFault.{HostFault}
use Rattle.just_host_record.specs.declared.entry.HostFault.TheVariants as fault
use Rattle.just_host_record.specs.World.{World}
use Rattle.just_dotenv.specs.Meaning.{Pairs}
use Rattle.just_lang_types.specs.declared.project.Justfile.{Justfile}
use Rattle.just_exec_work.specs.declared.run_flags.RunFlags.{RunFlags}
use Rattle.just_env.specs.declared.ask.DotenvAsk.{DotenvAsk}
use Rattle.just_env.specs.declared.env_error.EnvError.{EnvError}
use Rattle.just_env.specs.declared.env_error.EnvError.TheVariants as error
use Rattle.just_env.specs.declared.env_error.OutputError.TheVariants as output
use Rattle.just_env.specs.Captures.{Capture, AreTold}
use Rattle.just_env.specs.Loads.{LoadsProject}

abbrev pub is_failure : HostFault → Bool
is_failure (fault.Failed c) = true
is_failure (fault.Missed m) = false
is_failure fault.NoMemory = false

-- the refusal tells that a call of the host failed, or that a child wasn't run to its end, which says nothing of its world
abbrev pub tells_failure : EnvError → Bool
tells_failure (error.Io io path) = is_failure io
tells_failure (error.DotenvCommand command (output.Io io)) = true
tells_failure error.DotenvRequired = false
tells_failure (error.Dotenv path line) = false
tells_failure error.DotenvArgumentsRequireLists = false
tells_failure (error.DotenvCommand command (output.Code code)) = false
tells_failure (error.DotenvCommand command (output.Signal number)) = false
tells_failure (error.DotenvCommand command output.Unknown) = false
tells_failure (error.DotenvCommand command output.Utf8) = false
tells_failure error.NoMemory = false

-- the refusal tells that a child wasn't run to its end
abbrev pub tells_uncaptured : EnvError → Bool
tells_uncaptured (error.DotenvCommand command (output.Io io)) = true
tells_uncaptured (error.Io io path) = false
tells_uncaptured error.DotenvRequired = false
tells_uncaptured (error.Dotenv path line) = false
tells_uncaptured error.DotenvArgumentsRequireLists = false
tells_uncaptured (error.DotenvCommand command (output.Code code)) = false
tells_uncaptured (error.DotenvCommand command (output.Signal number)) = false
tells_uncaptured (error.DotenvCommand command output.Unknown) = false
tells_uncaptured (error.DotenvCommand command output.Utf8) = false
tells_uncaptured error.NoMemory = false

-- an answer that the world determines: no failure of the host
abbrev pub IsOwn : {A : Type 0} → Result A EnvError → Type 0
IsOwn (Ok x) = Unit {0}
IsOwn (Err e) = tells_failure e ≡ false

-- one such answer is given at most
abbrev pub GivesOwn : {A : Type 0} → (Result A EnvError → Type 0) → Type 0
GivesOwn {A} gives = (r s : Result A EnvError) → gives r → IsOwn r → gives s → IsOwn s → r ≡ s

-- The same of answers that use up children at the front of a list, behind each of which a world is told: both use up the same ones.
abbrev pub TakesOwn : {A : Type 0} → (List Capture → Result A EnvError → Type 0) → Type 0
TakesOwn {A} gives =
    (cs ds xs ys : List Capture) → cs ++ xs ≡ ds ++ ys → AreTold (ds ++ ys) → (r s : Result A EnvError) → gives cs r → IsOwn r → gives ds s → IsOwn s → (r ≡ s) × (cs ≡ ds) × (xs ≡ ys)

-- Over told worlds the modules of a project have their pairs in one way, where the children that are run to their end for them are the same ones.
abbrev pub DotenvAgrees : Type 0
DotenvAgrees = (w : World) (ask : DotenvAsk) (flags : RunFlags) (environ : Pairs) (j : Justfile) → TakesOwn (LoadsProject (Some w) ask flags environ j)

-- an answer that tells that a child wasn't run to its end
abbrev pub IsUnrun : {A : Type 0} → Result A EnvError → Type 0
IsUnrun (Ok x) = ⊥
IsUnrun (Err e) = tells_uncaptured e ≡ true

-- Behind the children that were run for such an answer no answer is own: one that is uses up a further child.
abbrev pub StandsAlone : {A : Type 0} → (List Capture → Result A EnvError → Type 0) → Type 0
StandsAlone {A} gives = (cs ds ys : List Capture) → cs ≡ ds ++ ys → AreTold (ds ++ ys) → (r s : Result A EnvError) → gives cs r → IsUnrun r → gives ds s → IsOwn s → ⊥

abbrev pub DotenvAlone : Type 0
DotenvAlone = (w : World) (ask : DotenvAsk) (flags : RunFlags) (environ : Pairs) (j : Justfile) → StandsAlone (LoadsProject (Some w) ask flags environ j)
