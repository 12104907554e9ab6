-- Calls of a host that are refused, and what these leave in its record.
use Rattle.std.specs.Prelude.{ℕ, ◌≡◌, List, [], ◌++◌, map, Option, Result, Ok, Err, MatchOption}
use Rattle.just_path.specs.declared.host.Miss.{Miss}
use Rattle.just_host_record.specs.declared.entry.Call.{Call}
use Rattle.just_host_record.specs.declared.entry.Entry.{Entry}
use Rattle.just_host_record.specs.declared.entry.Entry.TheVariants as entry
use Rattle.just_host_record.specs.declared.entry.HostFault.{HostFault}
use Rattle.just_host_record.specs.declared.entry.HostFault.TheVariants as fault
use Rattle.just_host_record.specs.Record.{refused, text_or_empty}
use Rattle.just_host_record.specs.World.{World}
use Rattle.just_host_record.specs.Looks.{dash}
use Rattle.just_env.specs.declared.search_error.SearchError.{SearchError}
use Rattle.just_env.specs.declared.search_error.SearchError.TheVariants as error

-- a call is refused: it misses, or fails as itself; want of memory is no refusal
abbrev pub IsRefusal : Call → HostFault → Type 0
IsRefusal c (fault.Missed m) = Unit {0}
IsRefusal c (fault.Failed d) = d ≡ c
IsRefusal c fault.NoMemory = ⊥

-- a call is refused that a told world answers so: it fails, or misses as the world shows
abbrev pub Refuses : {A : Type 0} → Call → Option World → (World → Result A Miss) → HostFault → Type 0
Refuses c told answer (fault.Missed m) = MatchOption told (Unit {0}) (λ w. answer w ≡ Err m)
Refuses c told answer (fault.Failed d) = d ≡ c
Refuses c told answer fault.NoMemory = ⊥

-- the entry of the refused call that an error tells: that of standard input has the path `-`, that of a temporary folder the folder it was to be
-- made in, if one is asked for
abbrev pub entries_of : Option (List ℕ) → SearchError → List Entry
entries_of parent (error.FilesystemIo path io) = refused path io
entries_of parent (error.StdinIo io) = refused dash io
entries_of parent (error.TempdirIo io) = refused (text_or_empty parent) io
entries_of parent error.GlobalJustfileInit = []
entries_of parent error.GlobalJustfileNotFound = []
entries_of parent error.InitWithJustfileFromStandardInput = []
entries_of parent (error.JustfileHadNoParent path) = []
entries_of parent (error.MultipleCandidates folder candidates) = []
entries_of parent error.NotFound = []
entries_of parent (error.Load path io) = []
entries_of parent (error.Lang e) = []
entries_of parent error.NoMemory = []

abbrev pub told_entries : {A : Type 0} → Option (List ℕ) → Result A SearchError → List Entry
told_entries parent (Ok x) = []
told_entries parent (Err e) = entries_of parent e

-- the entries of temporary folders that were made
abbrev pub made_entries : List (List ℕ) → List Entry
made_entries folders = map (λ folder. entry.Made folder) folders

-- what is left in the record: the entries of the folders that were made, and behind them that of the refused call
abbrev pub left_entries : {A : Type 0} → Option (List ℕ) → List (List ℕ) → Result A SearchError → List Entry
left_entries parent folders r = made_entries folders ++ told_entries parent r
