-- The world that a host may tell: its files, environment, current folder and standard input, which children
-- leave the files alone, and its disk, where it tells one.
use Rattle.std.specs.Prelude.{ℕ, ◌≡◌, nat_lt, if◌then◌else◌, Bool, true, List, length, Option, Some, None, Result, Ok, Err, MatchOption, string_bytes}
use Rattle.std.specs.FinMap as map
use Rattle.std.specs.Str.{is_utf8}
use Rattle.std.specs.declared.string.String.{String}
use Rattle.std.specs.declared.alloc.Global.{Global}
use Rattle.just_path.specs.View.{View, canonical_told}
use Rattle.just_path.specs.declared.host.Miss.{Miss}
use Rattle.just_path.specs.declared.host.Miss.TheVariants as miss
use Rattle.just_host_record.specs.declared.entry.Entry.{Entry}
use Rattle.just_host_record.specs.declared.entry.HostFault.{HostFault}
use Rattle.just_host_record.specs.declared.entry.HostFault.TheVariants as fault
use Rattle.just_host_record.specs.declared.entry.Spec.{Spec}
use Rattle.just_host_record.specs.declared.outside.TheConstants.{MAX_BYTES}
use Rattle.just_host_record.specs.declared.tree.Thing.{Thing}
use Rattle.just_host_record.specs.declared.tree.Thing.TheVariants as thing
use Rattle.just_host_record.specs.Disk.{Disk, StaysUntold}
use Rattle.just_host_record.specs.Sights.{Tree, seen}

pub record World : Type 0 where
  pub tree : Tree
  pub current : List ℕ
  pub environ : List (List ℕ × List ℕ)
  pub input : List ℕ
  -- whether a child of that spec leaves the files alone where it is run to its end for what it prints
  pub harmless : Spec → Bool
  -- what outlives a stop of the run; not every host tells it
  pub disk : Option Disk

-- what a host tells at a moment: the record of what it was asked, in order, and the world, where it tells one
pub record Moment : Type 0 where
  pub entries : List Entry
  pub world : Option World

-- a world as its paths see it
abbrev pub view_of : World → View
view_of w = record { current = w.current; tree = seen w.tree }

-- the text that these bytes are, within the limit of a read
abbrev pub text_in : List ℕ → Result (List ℕ) Miss
text_in bytes = if nat_lt MAX_BYTES (length bytes) then Err miss.TooLarge else (if is_utf8 bytes then Ok bytes else Err miss.NotUtf8)

abbrev pub text_of_thing : Option Thing → Result (List ℕ) Miss
text_of_thing (Some (thing.File bytes executable)) = text_in bytes
text_of_thing (Some thing.Folder) = Err miss.IsFolder
text_of_thing (Some (thing.Link target)) = Err miss.NotFound
text_of_thing None = Err miss.NotFound

abbrev pub text_at : Tree → Result (List ℕ) Miss → Result (List ℕ) Miss
text_at tree (Ok place) = text_of_thing (map.get tree place)
text_at tree (Err m) = Err m

-- the text of the file where a path leads, or the miss that the world shows
abbrev pub told_read : World → List ℕ → Result (List ℕ) Miss
told_read w path = text_at w.tree (canonical_told path (view_of w))

abbrev pub ReadShows : World → List ℕ → HostFault → Type 0
ReadShows w path (fault.Missed m) = told_read w path ≡ Err m
ReadShows w path (fault.Failed c) = Unit {0}
ReadShows w path fault.NoMemory = Unit {0}

-- over a told world a read text is the file's, and a miss is one that the tree shows
abbrev pub ReadTells : Option World → List ℕ → Result (String Global) HostFault → Type 0
ReadTells None path result = Unit {0}
ReadTells (Some w) path (Ok s) = told_read w path ≡ Ok (string_bytes s)
ReadTells (Some w) path (Err e) = ReadShows w path e

-- a child that leaves the files alone in the first world does so in the second
abbrev pub StayHarmless : World → World → Type 0
StayHarmless v w = (spec : Spec) → v.harmless spec ≡ true → w.harmless spec ≡ true

-- A call that may have changed the files and the disk, and nothing else of the world; no child that leaves them alone does harm
-- behind it. It may stop the telling of the disk. A world that isn't told stays untold, and so does a disk.
abbrev pub Touched : Option World → Option World → Type 0
Touched old new = MatchOption new (Unit {0}) (λ w. (v : World) × (old ≡ Some v) × (w.current ≡ v.current)
    × (w.environ ≡ v.environ) × (w.input ≡ v.input) × StayHarmless v w × StaysUntold v.disk w.disk)

-- a child that leaves the files alone leaves a told world as it is
abbrev pub LeftAlone : Option World → Option World → Spec → Type 0
LeftAlone old new spec = MatchOption old (Unit {0}) (λ w. w.harmless spec ≡ true → new ≡ old)

abbrev pub FaultLeaves : Option World → Option World → HostFault → Type 0
FaultLeaves old new (fault.Missed m) = new ≡ old
FaultLeaves old new (fault.Failed c) = Touched old new
FaultLeaves old new fault.NoMemory = new ≡ old

-- a start may touch the files, but where it was a miss or wanted memory
abbrev pub Leaves : {A : Type 0} → Option World → Option World → Result A HostFault → Type 0
Leaves old new (Ok x) = Touched old new
Leaves old new (Err e) = FaultLeaves old new e
