-- The errors of a loading: when an answer has one in its place, and what it leaves in the host's record and of its world.
use Rattle.std.specs.Prelude.{ℕ, ◌≡◌, ◌⊎◌, List, [], ◌++◌, Option, Result, Ok, Err}
use Rattle.just_host_record.specs.declared.entry.Entry.{Entry}
use Rattle.just_host_record.specs.Record.{refused}
use Rattle.just_host_record.specs.World.{Moment, World, FaultLeaves}
use Rattle.just_env.specs.Answers.{GainsMisses}
use Rattle.just_env.specs.declared.env_error.EnvError.{EnvError}
use Rattle.just_env.specs.declared.env_error.EnvError.TheVariants as error
use Rattle.just_env.specs.declared.env_error.OutputError.TheVariants as output
use Rattle.just_env.specs.Captures.{Capture, told_behind, AreAmongMisses}

-- an answer, or want of memory in its place
abbrev pub Answers : {A : Type 0} → (Result A EnvError → Type 0) → Result A EnvError → Type 0
Answers P (Ok x) = P (Ok x)
Answers P (Err e) = (e ≡ error.NoMemory) ⊎ P (Err e)

-- the entry of the refused call that an error tells; a child that is refused has that program
abbrev pub entries_of : List ℕ → EnvError → List Entry
entries_of program (error.Io io path) = refused path io
entries_of program (error.DotenvCommand command (output.Io io)) = refused program io
entries_of program error.DotenvRequired = []
entries_of program (error.Dotenv path line) = []
entries_of program error.DotenvArgumentsRequireLists = []
entries_of program (error.DotenvCommand command (output.Code code)) = []
entries_of program (error.DotenvCommand command (output.Signal number)) = []
entries_of program (error.DotenvCommand command output.Unknown) = []
entries_of program (error.DotenvCommand command output.Utf8) = []
entries_of program error.NoMemory = []

-- a record gains misses, and behind them the entry of the call for which an error came
abbrev pub Gains : {A : Type 0} → List Entry → List Entry → Result A EnvError → Type 0
Gains old new (Ok x) = GainsMisses old new
Gains old new (Err e) = (middle : List Entry) × GainsMisses old middle × (new ≡ middle ++ entries_of [] e)

-- a record gains the entries of children that were run to their end, and misses among them
abbrev pub GainsAmong : List Capture → List Entry → List Entry → Type 0
GainsAmong cs old new = (es : List Entry) × AreAmongMisses cs es × (new ≡ old ++ es)

-- the same, and behind them the entry of the call for which an error came
abbrev pub GainsAll : {A : Type 0} → List Capture → List Entry → List Entry → Result A EnvError → Type 0
GainsAll cs old new (Ok x) = GainsAmong cs old new
GainsAll cs old new (Err e) = (middle : List Entry) × (program : List ℕ) × GainsAmong cs old middle × (new ≡ middle ++ entries_of program e)

-- the entry that an error tells stands last in the record; that of a child that is refused names one of these programs
abbrev pub EndsBy : {A : Type 0} → (List ℕ → Type 0) → List Entry → Result A EnvError → Type 0
EndsBy programs new (Ok x) = Unit {0}
EndsBy programs new (Err e) = (program : List ℕ) × programs program × (middle : List Entry) × (new ≡ middle ++ entries_of program e)

-- the world that is told behind an answer is that behind the last child. One that couldn't be run to its end may have touched the files
abbrev pub ErrorLeaves : Option World → Option World → EnvError → Type 0
ErrorLeaves old new (error.DotenvCommand command (output.Io io)) = FaultLeaves old new io
ErrorLeaves old new (error.Io io path) = new ≡ old
ErrorLeaves old new error.DotenvRequired = new ≡ old
ErrorLeaves old new (error.Dotenv path line) = new ≡ old
ErrorLeaves old new error.DotenvArgumentsRequireLists = new ≡ old
ErrorLeaves old new (error.DotenvCommand command (output.Code code)) = new ≡ old
ErrorLeaves old new (error.DotenvCommand command (output.Signal number)) = new ≡ old
ErrorLeaves old new (error.DotenvCommand command output.Unknown) = new ≡ old
ErrorLeaves old new (error.DotenvCommand command output.Utf8) = new ≡ old
ErrorLeaves old new error.NoMemory = new ≡ old

abbrev pub Leaves : {A : Type 0} → Option World → List Capture → Option World → Result A EnvError → Type 0
Leaves old cs new (Ok x) = new ≡ told_behind old cs
Leaves old cs new (Err e) = ErrorLeaves (told_behind old cs) new e

-- An answer, with some children that were run to their end for it, and were begun so, whatever the answer is; and what it leaves in the record and of the
-- world.
abbrev pub Runs : {A : Type 0} → (List Capture → Result A EnvError → Type 0) → (List Capture → Type 0) → Moment → Moment → Result A EnvError → Type 0
Runs gives begins before after r =
    (cs : List Capture) × Answers (gives cs) r × GainsAll cs before.entries after.entries r × Leaves before.world cs after.world r × begins cs
