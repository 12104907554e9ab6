-- The program that a name means.
use Rattle.std.specs.Prelude.{ℕ, ◌≡◌, ◌⊎◌, ◌&&◌, Bool, true, false, if◌then◌else◌, List, [], ◌∷◌, ◌++◌, map, Option, Some, None, Result, Ok, Err, MatchOption}
use Rattle.just_path.specs.Comps.{Comp, comps}
use Rattle.just_path.specs.Path.{pushed}
use Rattle.just_path.specs.View.{is_file, meta_told, place_under}
use Rattle.just_path.specs.declared.host.Miss.{Miss}
use Rattle.just_path.specs.declared.host.PathFault.TheVariants as fault
use Rattle.just_path.specs.declared.meta.Meta.{Meta}
use Rattle.just_host_record.specs.declared.entry.Call.TheVariants as call
use Rattle.just_host_record.specs.declared.entry.Entry.{Entry}
use Rattle.just_host_record.specs.declared.entry.Entry.TheVariants as entry
use Rattle.just_host_record.specs.World.{World, view_of}
use Rattle.just_config_words.specs.Cuts.{parts}
use Rattle.just_env.specs.Answers.{GainsMisses}
use Rattle.just_search.specs.declared.which_error.WhichError.{WhichError}
use Rattle.just_search.specs.declared.which_error.WhichError.TheVariants as error
use Rattle.just_search.specs.First.{First}

-- the paths of a name in the folders that `PATH` lists between its colons, each under a folder and clean
abbrev pub paths_listed : List ℕ → List ℕ → Option (List ℕ) → Result (List (List ℕ)) WhichError
paths_listed folder name None = Err error.NoPath
paths_listed folder name (Some path) = Ok (map (λ part. place_under folder (pushed part name)) (parts 58 path))

abbrev pub paths_by : List ℕ → List ℕ → Option (List ℕ) → List Comp → Result (List (List ℕ)) WhichError
paths_by folder name path [] = Err error.Empty
paths_by folder name path (c ∷ []) = paths_listed folder name path
paths_by folder name path (c ∷ (d ∷ cs)) = Ok (place_under folder name ∷ [])

-- the paths at which the program may stand, over a value of `PATH`: a name of two or more components is a path itself
abbrev pub program_paths : List ℕ → List ℕ → Option (List ℕ) → Result (List (List ℕ)) WhichError
program_paths folder name path = paths_by folder name path (comps name)

-- whether it is an executable file that a world shows
abbrev pub shows_program : Result Meta Miss → Bool
shows_program (Ok m) = is_file m.kind && m.executable
shows_program (Err m) = false

-- whether an executable file stands where a path leads; over a host that tells no world either may be answered
abbrev pub SeesProgram : Option World → List ℕ → Bool → Type 0
SeesProgram told path b = MatchOption told (Unit {0}) (λ w. b ≡ shows_program (meta_told path true (view_of w)))

-- what a look at a path decides
pub data LooksAtProgram (told : Option World) (path : List ℕ) (o : Option (Result (Option (List ℕ)) WhichError)) : Type 0 where
  seen : (b : Bool) → SeesProgram told path b → o ≡ (if b then Some (Ok (Some path)) else None) → LooksAtProgram told path o
  failed : o ≡ Some (Err (error.Fault fault.Failed)) → LooksAtProgram told path o

abbrev pub LocatesAmong : Option World → Result (List (List ℕ)) WhichError → Result (Option (List ℕ)) WhichError → Type 0
LocatesAmong told (Ok paths) r = First (LooksAtProgram told) paths (Ok None) r
LocatesAmong told (Err e) r = r ≡ Err e

-- the first of its paths at which an executable file stands, if there is one; or want of memory
abbrev pub Locates : Option World → Result (List (List ℕ)) WhichError → Result (Option (List ℕ)) WhichError → Type 0
Locates told paths (Ok x) = LocatesAmong told paths (Ok x)
Locates told paths (Err e) = (e ≡ error.NoMemory) ⊎ LocatesAmong told paths (Err e)

-- the entry of the look that failed
abbrev pub failed_entries : WhichError → List Entry
failed_entries error.Empty = []
failed_entries error.NoPath = []
failed_entries (error.Fault f) = entry.Failed call.Meta ∷ []
failed_entries error.NoMemory = []

-- a record gains misses, and behind them the entry of the look that failed
abbrev pub GainsLooks : {A : Type 0} → List Entry → List Entry → Result A WhichError → Type 0
GainsLooks old new (Ok x) = GainsMisses old new
GainsLooks old new (Err e) = (middle : List Entry) × GainsMisses old middle × (new ≡ middle ++ failed_entries e)
