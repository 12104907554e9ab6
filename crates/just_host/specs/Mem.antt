-- What a host in memory tells, and which of its calls fail.
use Rattle.std.specs.Prelude.{ℕ, ◌≡◌, ◌==◌, ◌++◌, Bool, true, false, List, [], ◌∷◌, drop, Option, Some, None, Result, Ok, Err}
use Rattle.std.specs.List.{list_any}
use Rattle.just_path.specs.declared.host.Miss.{Miss}
use Rattle.just_path.specs.declared.host.Miss.TheVariants as miss
use Rattle.just_path.specs.declared.host.PathFault.{PathFault}
use Rattle.just_path.specs.declared.host.PathFault.TheVariants as path_fault
use Rattle.just_path.specs.declared.host.PathNote.{PathNote}
use Rattle.just_host_record.specs.declared.entry.Call.{Call}
use Rattle.just_host_record.specs.declared.entry.Entry.{Entry}
use Rattle.just_host_record.specs.declared.entry.HostFault.{HostFault}
use Rattle.just_host_record.specs.declared.entry.HostFault.TheVariants as fault
use Rattle.just_host.specs.declared.memory.MemHost.{MemHost}
use Rattle.just_host_memory.specs.declared.plot.Faults.{Faults}
use Rattle.just_host_record.specs.declared.entry.Status.{Status}
use Rattle.just_host_record.specs.Record.{noted, IsMissOf}
use Rattle.just_host_memory.specs.declared.sights.TreeFault.{TreeFault}
use Rattle.just_host_memory.specs.declared.sights.TreeFault.TheVariants as tree_fault
use Rattle.just_host_memory.specs.Playing.{ending_of, leave_alone, others, tree_after, next_call, word_of}
use Rattle.just_host_memory.specs.Trees.{files_of}
use Rattle.just_host_record.specs.Logs.{entries_of, spare_of}
use Rattle.just_host_record.specs.World.{World}

-- the record of a host in memory
abbrev pub record_of : MemHost → List Entry
record_of h = entries_of h.log

-- the world of a host in memory is what it holds; it tells no disk
abbrev pub world_of : MemHost → World
world_of h = record { tree = files_of h.tree; current = h.folder.path; environ = h.environ.pairs; input = h.input; harmless = λ spec. leave_alone h.endings.items (word_of spec); disk = None }

-- a call of a path host appends what its note stands for, and leaves the rest
pub record Went (a b : MemHost) (n : PathNote) : Type 0 where
  pub entries : record_of b ≡ record_of a ++ noted n
  pub world : Some (world_of b) ≡ Some (world_of a)
  pub spare : spare_of b.log ≡ spare_of a.log

-- a call leaves all but the record and what is spare, and the count of calls is this
pub record OnlyNotes (a b : MemHost) (count : ℕ) : Type 0 where
  pub world : world_of b ≡ world_of a
  pub endings : b.endings.items ≡ a.endings.items
  pub answers : b.answers.items ≡ a.answers.items
  pub signals : b.signals ≡ a.signals
  pub planned : b.faults.numbers ≡ a.faults.numbers
  pub calls : b.faults.calls ≡ count

-- a call leaves all but the record, what is spare and the files, and the count of calls is this
pub record OnlyFiles (a b : MemHost) (count : ℕ) : Type 0 where
  pub folder : b.folder.path ≡ a.folder.path
  pub environ : b.environ.pairs ≡ a.environ.pairs
  pub input : b.input ≡ a.input
  pub endings : b.endings.items ≡ a.endings.items
  pub answers : b.answers.items ≡ a.answers.items
  pub signals : b.signals ≡ a.signals
  pub planned : b.faults.numbers ≡ a.faults.numbers
  pub calls : b.faults.calls ≡ count

-- the next answer, empty where there is none
abbrev pub answer_in : List (List ℕ) → List ℕ
answer_in [] = []
answer_in (t ∷ ts) = t

-- a prompt was answered, and its answer is used; one call was counted
pub record Answers (a b : MemHost) : Type 0 where
  pub world : world_of b ≡ world_of a
  pub endings : b.endings.items ≡ a.endings.items
  pub answers : b.answers.items ≡ drop 1 a.answers.items
  pub signals : b.signals ≡ a.signals
  pub planned : b.faults.numbers ≡ a.faults.numbers
  pub calls : b.faults.calls ≡ next_call a.faults.calls

-- a child is started: its effects happen, and its ending is used; two calls were counted, its own and that of its end
pub record Plays (a b : MemHost) (word : List ℕ) : Type 0 where
  pub effects : files_of b.tree ≡ tree_after a.folder.path (files_of a.tree) (ending_of word a.endings.items)
  pub endings : b.endings.items ≡ others word a.endings.items
  pub folder : b.folder.path ≡ a.folder.path
  pub environ : b.environ.pairs ≡ a.environ.pairs
  pub input : b.input ≡ a.input
  pub answers : b.answers.items ≡ a.answers.items
  pub signals : b.signals ≡ a.signals
  pub planned : b.faults.numbers ≡ a.faults.numbers
  pub calls : b.faults.calls ≡ next_call (next_call a.faults.calls)

-- a child is run to its end: its effects happen, and its ending is used; one call was counted
pub record Runs (a b : MemHost) (word : List ℕ) : Type 0 where
  pub effects : files_of b.tree ≡ tree_after a.folder.path (files_of a.tree) (ending_of word a.endings.items)
  pub endings : b.endings.items ≡ others word a.endings.items
  pub folder : b.folder.path ≡ a.folder.path
  pub environ : b.environ.pairs ≡ a.environ.pairs
  pub input : b.input ≡ a.input
  pub answers : b.answers.items ≡ a.answers.items
  pub signals : b.signals ≡ a.signals
  pub planned : b.faults.numbers ≡ a.faults.numbers
  pub calls : b.faults.calls ≡ next_call a.faults.calls

-- whether the next call that can fail does
abbrev pub is_struck : Faults → Bool
is_struck faults = list_any (λ n. n == faults.calls) faults.numbers

-- whether the wait for a child that is started now fails: it has the next number
abbrev pub is_wait_struck : Faults → Bool
is_wait_struck faults = list_any (λ n. n == next_call faults.calls) faults.numbers

-- what waiting for a child gives that ends so
abbrev pub waited_for : Bool → Status → Option Status
waited_for true status = None
waited_for false status = Some status

abbrev pub IsStruckFault : Bool → HostFault → Type 0
IsStruckFault struck (fault.Missed m) = struck ≡ false
IsStruckFault struck (fault.Failed c) = struck ≡ true
IsStruckFault struck fault.NoMemory = Unit {0}

-- a call fails where its number is planned, and nowhere else
abbrev pub FailsIf : {A : Type 0} → Bool → Result A HostFault → Type 0
FailsIf struck (Ok x) = struck ≡ false
FailsIf struck (Err e) = IsStruckFault struck e

abbrev pub IsStruckPathFault : Bool → PathFault → Type 0
IsStruckPathFault struck (path_fault.Missed m) = struck ≡ false
IsStruckPathFault struck path_fault.Failed = struck ≡ true
IsStruckPathFault struck path_fault.NoMemory = Unit {0}

-- the same of a call of a path host
abbrev pub PathFailsIf : {A : Type 0} → Bool → Result A PathFault → Type 0
PathFailsIf struck (Ok x) = struck ≡ false
PathFailsIf struck (Err e) = IsStruckPathFault struck e

-- the refusal of a path that a tree has no answer for: its miss, or want of memory
abbrev pub IsFaultOf : TreeFault → PathFault → Type 0
IsFaultOf (tree_fault.Missed m) fault = IsMissOf m fault
IsFaultOf tree_fault.NoMemory fault = fault ≡ path_fault.NoMemory

abbrev pub IsHostMissOf : Miss → HostFault → Type 0
IsHostMissOf m (fault.Missed n) = n ≡ m
IsHostMissOf m (fault.Failed c) = ⊥
IsHostMissOf m fault.NoMemory = Unit {0}

-- the same of a call of a host
abbrev pub IsHostFaultOf : TreeFault → HostFault → Type 0
IsHostFaultOf (tree_fault.Missed m) refusal = IsHostMissOf m refusal
IsHostFaultOf tree_fault.NoMemory refusal = refusal ≡ fault.NoMemory

-- a tree's refusal that is no miss but that of what is too large
abbrev pub IsTooLarge : TreeFault → Type 0
IsTooLarge (tree_fault.Missed m) = m ≡ miss.TooLarge
IsTooLarge tree_fault.NoMemory = Unit {0}

abbrev pub IsOnlyMiss : Miss → HostFault → Type 0
IsOnlyMiss m (fault.Missed n) = n ≡ m
IsOnlyMiss m (fault.Failed c) = Unit {0}
IsOnlyMiss m fault.NoMemory = Unit {0}

-- no miss is answered but that one
abbrev pub OnlyMisses : {A : Type 0} → Miss → Result A HostFault → Type 0
OnlyMisses m (Ok x) = Unit {0}
OnlyMisses m (Err e) = IsOnlyMiss m e

-- the failure of that call, or want of memory
abbrev pub IsFailureOf : Call → HostFault → Type 0
IsFailureOf c (fault.Missed m) = ⊥
IsFailureOf c (fault.Failed d) = d ≡ c
IsFailureOf c fault.NoMemory = Unit {0}
