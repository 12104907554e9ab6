-- The dotenv pairs of a project's modules, and what their loading leaves in the host's record and of its world.
use Rattle.std.specs.Prelude.{ℕ, ◌≡◌, List, [], ◌++◌, Option, Some, None, Result, Ok, Err, MatchOption}
use Rattle.just_path_text.specs.declared.environ.Environ.{Environ}
use Rattle.just_lang_types.specs.declared.project.Justfile.{Justfile}
use Rattle.just_lang_types.specs.declared.scope.DotenvOf.{DotenvOf}
use Rattle.just_host_record.specs.declared.entry.Entry.{Entry}
use Rattle.just_host_record.specs.declared.entry.HostFault.{HostFault}
use Rattle.just_host_record.specs.Record.{refused}
use Rattle.just_host_record.specs.World.{World, Moment, FaultLeaves}
use Rattle.just_env.specs.declared.env_error.EnvError.{EnvError}
use Rattle.just_env.specs.DotenvAnswers.{GainsAmong}
use Rattle.just_env.specs.Captures.{Capture, told_behind}
use Rattle.just_env.specs.Loads.{LoadsProject, BeginsProject}
use Rattle.just_exec.specs.Refusals.{error_of_env}
use Rattle.just_exec.specs.declared.error.Error.{Error}
use Rattle.just_cli_plan.specs.Own.{OrMemory, call_at, uncaptured_by}
use Rattle.just_cli_plan.specs.declared.wanted.Wanted.{Wanted}

-- The modules of a justfile have these dotenv pairs, for which these children were run to their end; or the first of them that is refused is told. Over a host
-- that tells no world files may hold anything.
abbrev pub LoadsPairs : Option World → Wanted → Environ → Justfile → List Capture → Result (List DotenvOf) Error → Type 0
LoadsPairs told wanted environ j cs (Ok pairs) = LoadsProject told wanted.dotenv wanted.flags environ.pairs j cs (Ok pairs)
LoadsPairs told wanted environ j cs (Err e) = (f : EnvError) × LoadsProject told wanted.dotenv wanted.flags environ.pairs j cs (Err f) × (e ≡ error_of_env f)

-- what children were begun to be run for them, whatever the answer
abbrev pub BeginsLoading : Option World → Wanted → Environ → Justfile → List Capture → Type 0
BeginsLoading told wanted environ j cs = BeginsProject told wanted.dotenv wanted.flags environ.pairs j cs

-- ---- what is left

abbrev pub refused_in : Option (List ℕ × HostFault) → List Entry
refused_in (Some x) = refused x.0 x.1
refused_in None = []

-- The entry of the refused call that an error tells, if it tells one. That of a child that gives dotenv pairs and that of a justfile's temporary folder have
-- that path, which the error doesn't tell.
abbrev pub entries_of : List ℕ → Error → List Entry
entries_of path e = refused_in (call_at path e)

-- A record gains the entries of children that were run to their end, misses among them, and behind these the entry of the
-- refused call that an error tells; that of a child that is refused names one of these programs.
abbrev pub Gains : {A : Type 0} → (List ℕ → Type 0) → List Capture → List Entry → List Entry → Result A Error → Type 0
Gains programs cs old new (Ok x) = GainsAmong cs old new
Gains programs cs old new (Err e) =
    (middle : List Entry) × (program : List ℕ) × programs program × GainsAmong cs old middle
    × (new ≡ middle ++ entries_of program e)

-- the world that is told behind a refusal is the one before, but where a child couldn't be run to its end, which may have touched the files
abbrev pub ErrorLeaves : Option World → Option World → Error → Type 0
ErrorLeaves old new e = MatchOption (uncaptured_by e) (new ≡ old) (λ io. FaultLeaves old new io)

-- behind an answer the world is told that is behind the last child
abbrev pub Leaves : {A : Type 0} → Option World → List Capture → Option World → Result A Error → Type 0
Leaves old cs new (Ok x) = new ≡ told_behind old cs
Leaves old cs new (Err e) = ErrorLeaves (told_behind old cs) new e

-- an answer, or want of memory in its place
abbrev pub Answers : {A : Type 0} → (Result A Error → Type 0) → Result A Error → Type 0
Answers P (Ok x) = P (Ok x)
Answers P (Err e) = OrMemory (λ f. P (Err f)) e

-- An answer, with some children that were run to their end for it, and were begun so; and what it leaves in the record and of the world. A child that is
-- refused has one of these programs.
abbrev pub Runs : {A : Type 0} → (List Capture → Result A Error → Type 0) → (List Capture → Type 0)
    → (List ℕ → Type 0) → Moment → Moment → Result A Error → Type 0
Runs P begins programs before after r =
    (cs : List Capture) × Answers (P cs) r × Gains programs cs before.entries after.entries r
    × Leaves before.world cs after.world r × begins cs
