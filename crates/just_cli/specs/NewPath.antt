-- Where a new justfile is written, for words that ask for one.
use Rattle.std.specs.Prelude.{ℕ, ◌≡◌, ◌⊎◌, Bool, true, false, List, Option, Result, Ok, Err, MatchOption}
use Rattle.just_path.specs.View.{meta_told}
use Rattle.just_path.specs.declared.host.Miss.{Miss}
use Rattle.just_path.specs.declared.meta.Kind.{Kind}
use Rattle.just_path.specs.declared.meta.Kind.TheVariants as kind
use Rattle.just_path.specs.declared.meta.Meta.{Meta}
use Rattle.just_host_record.specs.declared.entry.Call.TheVariants as call
use Rattle.just_host_record.specs.declared.entry.HostFault.TheVariants as fault
use Rattle.just_host_record.specs.World.{World, view_of}
use Rattle.just_config.specs.declared.config.Config.{Config}
use Rattle.just_env.specs.declared.search_error.SearchError.{SearchError}
use Rattle.just_search.specs.declared.search_result.Search.{Search}
use Rattle.just_search.specs.Inits.{Inits}
use Rattle.just_exec.specs.Refusals.{error_of_search}
use Rattle.just_exec.specs.declared.error.Error.{Error}
use Rattle.just_exec.specs.declared.error.Error.TheVariants as error
use Rattle.just_cli_plan.specs.Steps.{Then}

-- ---- what stands at a path

-- whether it is a file, or what is written as one: a device, a pipe or a socket
abbrev pub is_written_to : Kind → Bool
is_written_to kind.File = true
is_written_to kind.Other = true
is_written_to kind.Folder = false
is_written_to kind.Link = false

abbrev pub is_file_found : Result Meta Miss → Bool
is_file_found (Ok m) = is_written_to m.kind
is_file_found (Err m) = false

-- whether one stands where a path leads, behind the link
abbrev pub has_file : List ℕ → World → Bool
has_file path w = is_file_found (meta_told path true (view_of w))

-- a told world shows that one does, or that none does
abbrev pub ShowsFile : Option World → List ℕ → Bool → Type 0
ShowsFile told path shown = MatchOption told (Unit {0}) (λ w. has_file path w ≡ shown)

-- ---- the steps; over a host that tells this world, if it tells one

-- the path where the justfile of a configuration is to be written, or why it can't be
abbrev pub FindsPath : Option World → Config → Result (List ℕ) Error → Type 0
FindsPath told config (Ok path) = (s : Search) × Inits told config (Ok s) × (path ≡ s.justfile)
FindsPath told config (Err e) = (f : SearchError) × Inits told config (Err f) × (e ≡ error_of_search f)

-- no file stands at a path; or one does, or the look at it fails
abbrev pub IsFree : Option World → List ℕ → Result (List ℕ) Error → Type 0
IsFree told path (Ok free) = (free ≡ path) × ShowsFile told path false
IsFree told path (Err e) = ((e ≡ error.InitExists path) × ShowsFile told path true) ⊎ (e ≡ error.FilesystemIo path (fault.Failed call.Meta))

-- the path where the new justfile of a configuration is written, or why none is
abbrev pub FindsFree : Option World → Config → Result (List ℕ) Error → Type 0
FindsFree told = Then (FindsPath told) (IsFree told)
