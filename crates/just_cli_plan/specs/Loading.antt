-- What is loaded over a told world is one thing.
use Rattle.std.specs.Prelude.{ℕ, ◌≡◌, Bool, true, false, List, Some, Result, Ok, Err}
use Rattle.just_lang_types.specs.declared.source.Source.{Source}
use Rattle.just_lang_layout.specs.Paths.{Pairs}
use Rattle.just_host_record.specs.declared.entry.HostFault.{HostFault}
use Rattle.just_host_record.specs.declared.entry.HostFault.TheVariants as fault
use Rattle.just_host_record.specs.World.{World}
use Rattle.just_env.specs.declared.search_error.SearchError.{SearchError}
use Rattle.just_env.specs.declared.search_error.SearchError.TheVariants as error
use Rattle.just_search_load.specs.Loads.{Loads, LoadsAll}

-- a call of the host failed, which says nothing of its world
abbrev pub is_failure : HostFault → Bool
is_failure (fault.Failed c) = true
is_failure (fault.Missed m) = false
is_failure fault.NoMemory = false

-- the refusal tells that a call of the host on a path failed
abbrev pub tells_failure : SearchError → Bool
tells_failure (error.FilesystemIo path io) = is_failure io
tells_failure (error.Load path io) = is_failure io
tells_failure error.GlobalJustfileInit = false
tells_failure error.GlobalJustfileNotFound = false
tells_failure error.InitWithJustfileFromStandardInput = false
tells_failure (error.JustfileHadNoParent path) = false
tells_failure (error.MultipleCandidates folder candidates) = false
tells_failure error.NotFound = false
tells_failure (error.StdinIo io) = false
tells_failure (error.TempdirIo io) = false
tells_failure (error.Lang e) = false
tells_failure error.NoMemory = false

-- an answer that the world determines: no failure of the host
abbrev pub IsOwn : {A : Type 0} → Result A SearchError → Type 0
IsOwn (Ok x) = Unit {0}
IsOwn (Err e) = tells_failure e ≡ false

-- one such answer is given at most
abbrev pub GivesOwn : {A : Type 0} → (Result A SearchError → Type 0) → Type 0
GivesOwn {A} gives = (r s : Result A SearchError) → gives r → IsOwn r → gives s → IsOwn s → r ≡ s

-- over a told world paths are loaded in one way over an environment, behind any sources
abbrev pub LoadsAgree : Type 0
LoadsAgree = (w : World) (environ : Pairs) (before : List Source) (paths : List (List ℕ)) → GivesOwn (Loads (Some w) environ before paths)

-- so is a root, over the environment of the world
abbrev pub RootsAgree : Type 0
RootsAgree = (w : World) (before : List Source) (root : List ℕ) → GivesOwn (LoadsAll (Some w) before root)
