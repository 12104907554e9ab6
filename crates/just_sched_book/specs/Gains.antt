-- What a host's record gains by the calls that a body's events stand for.
use Rattle.std.specs.Prelude.{ℕ, ◌≡◌, ◌≢◌, ◌⊎◌, ◌<◌, Bool, false, codes, List, [], ◌∷◌, ◌++◌, length, slice_index_or, Contains, Option, Some, None, Result, Ok, Err}
use Rattle.std.specs.List.{list_any}
use Rattle.just_path.specs.declared.host.Miss.{Miss}
use Rattle.just_host_record.specs.declared.entry.Call.{Call}
use Rattle.just_host_record.specs.declared.entry.Call.TheVariants as call
use Rattle.just_host_record.specs.declared.entry.Entry.{Entry}
use Rattle.just_host_record.specs.declared.entry.Entry.TheVariants as entry
use Rattle.just_host_record.specs.Record.{is_failed, script_folder}
use Rattle.just_host_record.specs.World.{World, Moment}
use Rattle.just_sched_history.specs.declared.event.Reason.{Reason}
use Rattle.just_sched_history.specs.declared.event.Reason.TheVariants as reason
use Rattle.just_exec_work.specs.declared.work.Command.{Command}
use Rattle.just_host_record.specs.declared.entry.Look.{Look}
use Rattle.just_sched_history.specs.declared.cache_plan.CachePlan.{CachePlan}
use Rattle.just_sched_history.specs.Cached.{entry_of}
use Rattle.just_sched_history.specs.Match.{printed_entries, is_yes, started_entries, summed_entries, looked_entries, saved_entries}

-- from one moment to another the record gained entries of this kind
abbrev pub Gains : Moment → Moment → (List Entry → Type 0) → Type 0
Gains before after kind = (es : List Entry) × (after.entries ≡ before.entries ++ es) × kind es

-- the same, and where none of them tells a failure, the world was left so
abbrev pub GainsAndLeaves : Moment → Moment → (List Entry → Type 0) → (Option World → Option World → Type 0) → Type 0
GainsAndLeaves before after kind leaves =
    (es : List Entry) × (after.entries ≡ before.entries ++ es) × kind es
    × (list_any is_failed es ≡ false → leaves before.world after.world)

-- ---- a refused call

-- What a refused call of that kind gains: the entry of its failure; that of its miss, where it may miss; and nothing where
-- memory was wanting. Each other reason isn't one of a call.
abbrev pub RefusalGains : Call → (Miss → List Entry → Type 0) → Reason → List Entry → Type 0
RefusalGains made misses (reason.Fault c) es = (c ≡ made) × (es ≡ entry.Failed made ∷ [])
RefusalGains made misses (reason.Place c m) es = (c ≡ made) × misses m es
RefusalGains made misses reason.NoMemory es = es ≡ []
RefusalGains made misses (reason.Input j m) es = ⊥
RefusalGains made misses (reason.Output j) es = ⊥
RefusalGains made misses reason.Status es = ⊥
RefusalGains made misses reason.NotConfirmed es = ⊥
RefusalGains made misses reason.Interrupted es = ⊥

-- a miss that is told with that path
abbrev pub MissesAt : List ℕ → Miss → List Entry → Type 0
MissesAt path m es = es ≡ entry.Missed path m ∷ []

-- a call that may not miss
abbrev pub NeverMisses : Miss → List Entry → Type 0
NeverMisses m es = ⊥

-- ---- what a call gains

-- what the record gains by a text that is printed to standard error
abbrev pub TellGains : {A : Type 0} → List ℕ → Result A Reason → List Entry → Type 0
TellGains text (Ok x) es = es ≡ printed_entries text
TellGains text (Err e) es = (printed_entries text ≢ []) × RefusalGains call.Print NeverMisses e es

-- a start is refused as itself, or as the making of the folder or the file of its script
abbrev pub StartRefusal : Command → Reason → List Entry → Type 0
StartRefusal c e es = RefusalGains call.Start NeverMisses e es ⊎ RefusalGains call.Temp (MissesAt (script_folder c.spec)) e es

-- what the record gains by a command: its echo, and the start of its child, up to what broke
abbrev pub StartGains : {C : Type 0} → (C → ℕ) → Command → Result C Reason → List Entry → Type 0
StartGains number c (Ok child) es = es ≡ started_entries (number child) c
StartGains number c (Err e) es =
    TellGains {A = Unit {0}} c.echo (Err e) es
    ⊎ ((later : List Entry) × (es ≡ printed_entries c.echo ++ later) × StartRefusal c e later)

-- what the record gains by a prompt that is asked
abbrev pub AskGains : List ℕ → Result Bool Reason → List Entry → Type 0
AskGains prompt (Ok said) es = (answer : List ℕ) × (is_yes answer ≡ said) × (es ≡ entry.Asked prompt answer ∷ [])
AskGains prompt (Err e) es = RefusalGains call.Ask (MissesAt (codes "-")) e es

-- what the record gains where the sum of a file is refused, the input at that place; a miss has the reason of that input
abbrev pub RefusedSum : List ℕ → ℕ → Reason → List Entry → Type 0
RefusedSum path place (reason.Input j m) es = (j ≡ place) × MissesAt path m es
RefusedSum path place e es = RefusalGains call.Sum NeverMisses e es

-- what the record gains by one file's sum, the input at that place
abbrev pub SumGain : {A : Type 0} → List ℕ → ℕ → (A → List ℕ) → Result A Reason → List Entry → Type 0
SumGain path place sum (Ok x) es = es ≡ entry.Summed path (sum x) ∷ []
SumGain path place sum (Err e) es = RefusedSum path place e es

-- what it gains by a look at an entry
abbrev pub ProbeGain : List ℕ → List (List ℕ) → Result Look Reason → List Entry → Type 0
ProbeGain path outputs (Ok seen) es = es ≡ entry.Probed path outputs seen ∷ []
ProbeGain path outputs (Err e) es = RefusalGains call.Probe (MissesAt path) e es

-- what it gains by a check of outputs, each of which is there, or the first that isn't is told
abbrev pub CheckGain : List (List ℕ) → Result (Unit {0}) Reason → List Entry → Type 0
CheckGain outputs (Ok done) es = es ≡ entry.Checked outputs None ∷ []
CheckGain outputs (Err (reason.Output j)) es = (j < length outputs) × (es ≡ entry.Checked outputs (Some j) ∷ [])
CheckGain outputs (Err e) es =
    RefusalGains call.Check (λ m fs. (path : List ℕ) × Contains outputs path × MissesAt path m fs) e es

-- what it gains by an entry that is made to hold a text
abbrev pub KeepGain : List ℕ → Result (Unit {0}) Reason → List Entry → Type 0
KeepGain path (Ok done) es = es ≡ entry.Saved path ∷ []
KeepGain path (Err e) es = RefusalGains call.Save (MissesAt path) e es

-- ---- what calls gain together

-- what the record gained where a sum was refused: for want of memory before the first; or the sums of some files, and then
-- the refusal of the next
abbrev pub SumRefusal : List (List ℕ) → Reason → List Entry → Type 0
SumRefusal paths e es =
    ((e ≡ reason.NoMemory) × (es ≡ []))
    ⊎ ((sums : List (List ℕ)) × (later : List Entry) × (length sums < length paths)
    × (es ≡ summed_entries paths sums ++ later)
    × RefusedSum (slice_index_or paths (length sums) []) (length sums) e later)

-- the same where a look at a cache was refused: in a sum; or behind all of them, in the look at the entry
abbrev pub LookRefusal : CachePlan → Reason → List Entry → Type 0
LookRefusal c e es =
    SumRefusal c.paths e es
    ⊎ ((sums : List (List ℕ)) × (later : List Entry) × (length sums ≡ length c.paths)
    × (es ≡ summed_entries c.paths sums ++ later)
    × RefusalGains call.Probe (MissesAt (entry_of c sums)) e later)

-- what the record gains by the sums of files: all of them; or up to the first that was refused
abbrev pub SumGains : {A : Type 0} → List (List ℕ) → (A → List (List ℕ)) → Result A Reason → List Entry → Type 0
SumGains paths sums (Ok x) es = (length (sums x) ≡ length paths) × (es ≡ summed_entries paths (sums x))
SumGains paths sums (Err e) es = SumRefusal paths e es

-- what it gains by a look: the sums of the inputs, and the look at the entry of the key that they give
abbrev pub LookGains : {A : Type 0} → CachePlan → (A → List (List ℕ)) → (A → Look) → Result A Reason → List Entry → Type 0
LookGains c sums seen (Ok x) es = (length (sums x) ≡ length c.paths) × (es ≡ looked_entries c (sums x) (seen x))
LookGains c sums seen (Err e) es = LookRefusal c e es

-- what it gains by saving an entry: the check of the outputs, and the entry
abbrev pub SaveGains : CachePlan → List (List ℕ) → Result (Unit {0}) Reason → List Entry → Type 0
SaveGains c sums (Ok done) es = es ≡ saved_entries c sums
SaveGains c sums (Err e) es =
    CheckGain c.outputs (Err e) es
    ⊎ ((later : List Entry) × (es ≡ entry.Checked c.outputs None ∷ later) × KeepGain (entry_of c sums) (Err e) later)

-- what a call made of a told world, where none failed: an answer changed it so, and a refusal left it as it was
abbrev pub LeavesWorld : {A : Type 0} → (A → Option World → Option World → Type 0) → Result A Reason → Option World → Option World → Type 0
LeavesWorld change (Ok x) old new = change x old new
LeavesWorld change (Err e) old new = new ≡ old

-- a fact where the call was refused
abbrev pub IfRefused : {A : Type 0} → Result A Reason → Type 0 → Type 0
IfRefused (Ok x) P = Unit {0}
IfRefused (Err e) P = P
