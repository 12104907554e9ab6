-- The errors of a search: when a call of a host makes one, and what it leaves in the host's record.
use Rattle.std.specs.Prelude.{ℕ, ◌≡◌, ◌⊎◌, true, List, [], ◌++◌, Option, Result, Ok, Err, MatchOption}
use Rattle.std.specs.List.{AllByRecursion}
use Rattle.just_path_text.specs.declared.environ.Environ.{Environ}
use Rattle.just_host_record.specs.declared.entry.Call.{Call}
use Rattle.just_host_record.specs.declared.entry.Call.TheVariants as call
use Rattle.just_host_record.specs.declared.entry.Entry.{Entry}
use Rattle.just_host_record.specs.declared.entry.HostFault.TheVariants as fault
use Rattle.just_host_record.specs.Record.{is_missed, refused}
use Rattle.just_host_record.specs.World.{World}
use Rattle.just_env.specs.declared.search_error.SearchError.{SearchError}
use Rattle.just_env.specs.declared.search_error.SearchError.TheVariants as error

-- an answer, or want of memory in its place
abbrev pub Answers : {A : Type 0} → (Result A SearchError → Type 0) → Result A SearchError → Type 0
Answers P (Ok x) = P (Ok x)
Answers P (Err e) = (e ≡ error.NoMemory) ⊎ P (Err e)

-- the call failed
abbrev pub Fails : Call → List ℕ → SearchError → Type 0
Fails c path e = e ≡ error.FilesystemIo path (fault.Failed c)

-- the environment of a host; a failure is told with the empty path
abbrev pub GivesEnviron : Option World → Result Environ SearchError → Type 0
GivesEnviron told (Ok e) = MatchOption told (Unit {0}) (λ w. e.pairs ≡ w.environ)
GivesEnviron told (Err e) = Fails call.Environ [] e

-- ---- the record

-- the entry of the refused call that an error tells
abbrev pub entries_of : SearchError → List Entry
entries_of (error.FilesystemIo path io) = refused path io
entries_of (error.Load path io) = refused path io
entries_of error.GlobalJustfileInit = []
entries_of error.GlobalJustfileNotFound = []
entries_of error.InitWithJustfileFromStandardInput = []
entries_of (error.JustfileHadNoParent path) = []
entries_of (error.MultipleCandidates folder candidates) = []
entries_of error.NotFound = []
entries_of (error.StdinIo io) = []
entries_of (error.TempdirIo io) = []
entries_of (error.Lang e) = []
entries_of error.NoMemory = []

-- what a call of the host leaves of its answer: the entry of its refusal
abbrev pub told_entries : {A : Type 0} → Result A SearchError → List Entry
told_entries (Ok x) = []
told_entries (Err e) = entries_of e

-- a record that gained misses alone
abbrev pub GainsMisses : List Entry → List Entry → Type 0
GainsMisses old new = (misses : List Entry) × (new ≡ old ++ misses) × AllByRecursion (λ e. is_missed e ≡ true) misses

-- a record gains misses, and behind them the entry of the call for which an error came
abbrev pub Gains : {A : Type 0} → List Entry → List Entry → Result A SearchError → Type 0
Gains old new (Ok x) = GainsMisses old new
Gains old new (Err e) = (middle : List Entry) × GainsMisses old middle × (new ≡ middle ++ entries_of e)
