-- A justfile as a file that can be loaded.
use Rattle.std.specs.Prelude.{ℕ, ◌≡◌, ◌⊎◌, List, [], ◌∷◌, ◌++◌, Option, Some, option_map, Result, Ok, Err, codes}
use Rattle.just_path.specs.Path.{pushed}
use Rattle.just_host_record.specs.declared.entry.Call.TheVariants as call
use Rattle.just_host_record.specs.declared.entry.Entry.{Entry}
use Rattle.just_host_record.specs.declared.entry.HostFault.{HostFault}
use Rattle.just_host_record.specs.World.{World, Moment}
use Rattle.just_host_record.specs.Changes.{Changes, written, place_written}
use Rattle.just_host_record.specs.Folders.{TempTells}
use Rattle.just_env.specs.declared.search_error.SearchError.{SearchError}
use Rattle.just_env.specs.declared.search_error.SearchError.TheVariants as error
use Rattle.just_search.specs.declared.search_result.Search.{Search}
use Rattle.just_search.specs.Inits.{search_at}
use Rattle.just_config.specs.declared.config.Config.{Config}
use Rattle.just_search.specs.Finding.{given_path}
use Rattle.just_search.specs.declared.location.Location.{Location}
use Rattle.just_search.specs.declared.location.Origin.TheVariants as origin
use Rattle.just_search.specs.Calls.{IsRefusal, left_entries}
use Rattle.just_search.specs.Texts.{GivesText}

-- the folder in which a temporary one is to be made, if one is asked for: under the folder in which the program was called, and clean
abbrev pub parent_of : Config → Option (List ℕ)
parent_of config = option_map (given_path config) config.tempdir

-- the name of a temporary folder begins so
abbrev pub prefix : List ℕ
prefix = codes "just-"

-- the file in a temporary folder
abbrev pub file_in : List ℕ → List ℕ
file_in folder = pushed folder (codes "justfile")

-- the justfile in a temporary folder, run in another folder
abbrev pub search_in : List ℕ → List ℕ → Search
search_in folder working = record { justfile = file_in folder; tempdir = Some folder; working_directory = working }

-- a call that makes a temporary folder makes this of a told world, and answers so
abbrev pub Makes : Option World → Option World → Option (List ℕ) → Result (List ℕ) HostFault → Type 0
Makes told after parent r = TempTells told after parent prefix r

-- a call that writes a text to the file at a path makes this of a told world, and answers so
abbrev pub WritesAt : {A : Type 0} → Option World → Option World → List ℕ → List ℕ → Result A HostFault → Type 0
WritesAt told after path text r = Changes (λ w. written w path text) (λ w place. place_written w path ≡ Ok place) told after r

-- it is written; or the call is refused so
abbrev pub IsWritten : Option World → Option World → List ℕ → List ℕ → Type 0
IsWritten told after path text = WritesAt {A = Unit {0}} told after path text (Ok tt)

abbrev pub IsUnwritten : Option World → Option World → List ℕ → List ℕ → HostFault → Type 0
IsUnwritten told after path text io = WritesAt {A = Unit {0}} told after path text (Err io)

-- the same of the file in a temporary folder
abbrev pub Writes : Option World → Option World → List ℕ → List ℕ → Result (Unit {0}) HostFault → Type 0
Writes told after folder text r = WritesAt told after (file_in folder) text r

-- a text is written to the file in that folder; or why it isn't
abbrev pub WritesFile : Option World → Option World → List ℕ → List ℕ → List ℕ → Result Search SearchError → Type 0
WritesFile told after folder text working (Ok s) = (s ≡ search_in folder working) × Writes told after folder text (Ok tt)
WritesFile told after folder text working (Err e) =
    ((e ≡ error.NoMemory) × (after ≡ told)) ⊎ ((io : HostFault) × (e ≡ error.FilesystemIo (file_in folder) io) × IsRefusal call.Write io × Writes told after folder text (Err io))

-- an answer for which temporary folders may be made, and kept behind others; with what it leaves in the record
abbrev pub MakesFolders : (List (List ℕ) → Result Search SearchError → Type 0) → Option (List ℕ) → List (List ℕ) → List (List ℕ) → List Entry → List Entry → Result Search SearchError → Type 0
MakesFolders gives parent kept keeps old new r = (folders : List (List ℕ)) × (keeps ≡ kept ++ folders) × (new ≡ old ++ left_entries parent folders r) × gives folders r

-- A text is written to the file in a temporary folder: the folders that are made for it, and the file as it is read. What is made of a told world is
-- known whatever the answer.
pub data WritesText (told after : Option World) (parent : Option (List ℕ)) (text working : List ℕ) : List (List ℕ) → Result Search SearchError → Type 0 where
  a_file : (between : Option World) (folder : List ℕ) → Makes told between parent (Ok folder) → Writes between after folder text (Ok tt)
      → WritesText told after parent text working (folder ∷ []) (Ok (search_in folder working))
  no_folder : (io : HostFault) → IsRefusal call.Temp io → Makes told after parent (Err io) → WritesText told after parent text working [] (Err (error.TempdirIo io))
  unwritten : (between : Option World) (folder : List ℕ) (io : HostFault) → Makes told between parent (Ok folder) → IsRefusal call.Write io → Writes between after folder text (Err io)
      → WritesText told after parent text working (folder ∷ []) (Err (error.FilesystemIo (file_in folder) io))
  no_memory : after ≡ told → WritesText told after parent text working [] (Err error.NoMemory)
  no_memory_behind : (folder : List ℕ) → Makes told after parent (Ok folder) → WritesText told after parent text working (folder ∷ []) (Err error.NoMemory)

-- a text becomes so the file in a temporary folder, which is kept behind others
abbrev pub TextBecomesFile : Moment → Moment → Option (List ℕ) → List ℕ → List ℕ → List (List ℕ) → List (List ℕ) → Result Search SearchError → Type 0
TextBecomesFile before after parent text working kept keeps r =
    MakesFolders (WritesText before.world after.world parent text working) parent kept keeps before.entries after.entries r

-- The justfile in a place, as a file that can be loaded: a file is so itself; markdown and standard input are read, and their text is written to the
-- file in a temporary folder, which is made for it.
pub data Materializes (told after : Option World) (parent : Option (List ℕ)) (place : Location) : List (List ℕ) → Result Search SearchError → Type 0 where
  file : (path : List ℕ) → place.origin ≡ origin.File path → after ≡ told → Materializes told after parent place [] (Ok (search_at path place.working_directory))
  unread : (e : SearchError) → GivesText told place.origin (Err e) → after ≡ told → Materializes told after parent place [] (Err e)
  read : (text : List ℕ) (folders : List (List ℕ)) (r : Result Search SearchError) → GivesText told place.origin (Ok text) → WritesText told after parent text place.working_directory folders r
      → Materializes told after parent place folders r
  no_memory : after ≡ told → Materializes told after parent place [] (Err error.NoMemory)
