-- How a host's record grows: what each answer of a call appends, and what is counted over a record.
use Rattle.std.specs.Prelude.{ℕ, ◌≡◌, ◌≢◌, ◌==◌, ◌⊎◌, Bool, true, false, if◌then◌else◌, List, [], ◌∷◌, Option, Some, None, Result, Ok, Err, count_by, is_some}
use Rattle.just_path.specs.declared.host.PathCall.{PathCall}
use Rattle.just_path.specs.declared.host.PathCall.TheVariants as path_call
use Rattle.just_path.specs.declared.host.Miss.{Miss}
use Rattle.just_path.specs.declared.host.Miss.TheVariants as miss
use Rattle.just_path.specs.declared.host.PathFault.{PathFault}
use Rattle.just_path.specs.declared.host.PathFault.TheVariants as path_fault
use Rattle.just_path.specs.declared.host.PathNote.{PathNote}
use Rattle.just_path.specs.declared.host.PathNote.TheVariants as note
use Rattle.just_host_record.specs.declared.entry.Call.{Call}
use Rattle.just_host_record.specs.declared.entry.Call.TheVariants as call
use Rattle.just_host_record.specs.declared.entry.Entry.{Entry}
use Rattle.just_host_record.specs.declared.entry.Entry.TheVariants as entry
use Rattle.just_host_record.specs.declared.entry.HostFault.{HostFault}
use Rattle.just_host_record.specs.declared.entry.HostFault.TheVariants as fault
use Rattle.just_host_record.specs.declared.entry.Script.{Script}
use Rattle.just_host_record.specs.declared.entry.Spec.{Spec}
use Rattle.just_host_record.specs.declared.entry.Status.{Status}

-- what a refused call appends: the miss of its path, the failure of its call, or nothing
abbrev pub refused : List ℕ → HostFault → List Entry
refused path (fault.Missed m) = entry.Missed path m ∷ []
refused path (fault.Failed c) = entry.Failed c ∷ []
refused path fault.NoMemory = []

-- what a call on that path appends, where an answer x appends `made x`
abbrev pub gained : {A : Type 0} → List ℕ → (A → List Entry) → Result A HostFault → List Entry
gained path made (Ok x) = made x
gained path made (Err e) = refused path e

-- a failure of that call, if it is one
abbrev pub IsOwnFault : Call → HostFault → Type 0
IsOwnFault c (fault.Missed m) = Unit {0}
IsOwnFault c (fault.Failed d) = d ≡ c
IsOwnFault c fault.NoMemory = Unit {0}

-- a failure names the call itself
abbrev pub IsOwn : {A : Type 0} → Call → Result A HostFault → Type 0
IsOwn c (Ok x) = Unit {0}
IsOwn c (Err e) = IsOwnFault c e

abbrev pub IsNoMiss : HostFault → Type 0
IsNoMiss (fault.Missed m) = ⊥
IsNoMiss (fault.Failed c) = Unit {0}
IsNoMiss fault.NoMemory = Unit {0}

-- no miss is answered
abbrev pub NeverMissed : {A : Type 0} → Result A HostFault → Type 0
NeverMissed (Ok x) = Unit {0}
NeverMissed (Err e) = IsNoMiss e

-- the call of a host that a call of a path host is
abbrev pub call_of : PathCall → Call
call_of path_call.Meta = call.Meta
call_of path_call.List = call.List
call_of path_call.Canonical = call.Canonical
call_of path_call.Link = call.Link
call_of path_call.Current = call.Current

-- the entries that the note of a call of a path host stands for
abbrev pub noted : PathNote → List Entry
noted note.Nothing = []
noted (note.Missed path m) = entry.Missed path m ∷ []
noted (note.Failed c) = entry.Failed (call_of c) ∷ []

-- a refusal of a path host's call that failed, and one that is that miss; each may want memory in its place
abbrev pub IsFailure : PathFault → Type 0
IsFailure (path_fault.Missed m) = ⊥
IsFailure path_fault.Failed = Unit {0}
IsFailure path_fault.NoMemory = Unit {0}

abbrev pub IsMissOf : Miss → PathFault → Type 0
IsMissOf m (path_fault.Missed n) = n ≡ m
IsMissOf m path_fault.Failed = ⊥
IsMissOf m path_fault.NoMemory = Unit {0}

abbrev pub is_failed : Entry → Bool
is_failed (entry.Missed p m) = false
is_failed (entry.Failed c) = true
is_failed (entry.Asked prompt answer) = false
is_failed (entry.Summed p sum) = false
is_failed (entry.Probed p outputs l) = false
is_failed (entry.Checked outputs first) = false
is_failed (entry.Saved p) = false
is_failed (entry.Started c spec) = false
is_failed (entry.Ended c status) = false
is_failed (entry.Captured spec input status output) = false
is_failed (entry.Strayed a b) = true
is_failed (entry.Signalled signal) = false
is_failed (entry.Printed stream text) = false
is_failed (entry.Made p) = false

abbrev pub is_missed : Entry → Bool
is_missed (entry.Missed p m) = true
is_missed (entry.Failed c) = false
is_missed (entry.Asked prompt answer) = false
is_missed (entry.Summed p sum) = false
is_missed (entry.Probed p outputs l) = false
is_missed (entry.Checked outputs first) = false
is_missed (entry.Saved p) = false
is_missed (entry.Started c spec) = false
is_missed (entry.Ended c status) = false
is_missed (entry.Captured spec input status output) = false
is_missed (entry.Strayed a b) = false
is_missed (entry.Signalled signal) = false
is_missed (entry.Printed stream text) = false
is_missed (entry.Made p) = false

abbrev pub is_started : Entry → Bool
is_started (entry.Missed p m) = false
is_started (entry.Failed c) = false
is_started (entry.Asked prompt answer) = false
is_started (entry.Summed p sum) = false
is_started (entry.Probed p outputs l) = false
is_started (entry.Checked outputs first) = false
is_started (entry.Saved p) = false
is_started (entry.Started c spec) = true
is_started (entry.Ended c status) = false
is_started (entry.Captured spec input status output) = false
is_started (entry.Strayed a b) = false
is_started (entry.Signalled signal) = false
is_started (entry.Printed stream text) = false
is_started (entry.Made p) = false

-- the number of failures in a record; an end that was handed in for another child is one
abbrev pub faults_of : List Entry → ℕ
faults_of es = count_by is_failed es

-- the number of misses in a record
abbrev pub misses_of : List Entry → ℕ
misses_of es = count_by is_missed es

-- the number of children that were started
abbrev pub children : List Entry → ℕ
children es = count_by is_started es

-- the entry of an end, where waiting gave that status or failed
abbrev pub ended_entry : ℕ → Option Status → Entry
ended_entry child (Some s) = entry.Ended child s
ended_entry child None = entry.Failed call.Wait

-- what settling a child appends, with the end of the child of that number, and the status that waiting gave
abbrev pub settled_entry : ℕ → ℕ → Option Status → Entry
settled_entry child number waited = if number == child then ended_entry child waited else entry.Strayed child number

abbrev pub ended_answer : Option Status → Result Status HostFault
ended_answer (Some s) = Ok s
ended_answer None = Err (fault.Failed call.Wait)

-- what settling a child answers: that status, where the end is its own and waiting didn't fail
abbrev pub settled_answer : ℕ → ℕ → Option Status → Result Status HostFault
settled_answer child number waited = if number == child then ended_answer waited else Err (fault.Failed call.Wait)

-- a text, or the empty one
abbrev pub text_or_empty : Option (List ℕ) → List ℕ
text_or_empty (Some t) = t
text_or_empty None = []

abbrev pub folder_of_script : Option Script → List ℕ
folder_of_script (Some s) = text_or_empty s.folder
folder_of_script None = []

-- the folder of a child's script, which is the path of a miss of `start`; empty where there is none
abbrev pub script_folder : Spec → List ℕ
script_folder spec = folder_of_script spec.script

-- whether the child has a script, whose file `start` writes first
abbrev pub HasScript : Spec → Type 0
HasScript spec = is_some spec.script ≡ true

abbrev pub IsStartRefusal : Spec → HostFault → Type 0
IsStartRefusal spec (fault.Missed m) = HasScript spec
IsStartRefusal spec (fault.Failed c) = (c ≡ call.Start) ⊎ ((c ≡ call.Temp) × HasScript spec)
IsStartRefusal spec fault.NoMemory = Unit {0}

-- a start fails as itself; a miss, or a failure of the temporary file, is only answered for a child with a script
abbrev pub IsStartFault : {A : Type 0} → Spec → Result A HostFault → Type 0
IsStartFault spec (Ok x) = Unit {0}
IsStartFault spec (Err e) = IsStartRefusal spec e

abbrev pub IsCaptureRefusal : List ℕ → HostFault → Type 0
IsCaptureRefusal input (fault.Missed m) = m ≡ miss.TooLarge
IsCaptureRefusal input (fault.Failed c) = (c ≡ call.Start) ⊎ ((c ≡ call.Capture) ⊎ ((c ≡ call.Write) × (input ≢ [])))
IsCaptureRefusal input fault.NoMemory = Unit {0}

-- a capture fails as its start or as itself; where there is something to feed, as its writing too. It misses where its output is too large
abbrev pub IsCaptureFault : {A : Type 0} → List ℕ → Result A HostFault → Type 0
IsCaptureFault input (Ok x) = Unit {0}
IsCaptureFault input (Err e) = IsCaptureRefusal input e
