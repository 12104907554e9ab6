-- What the calls that write make of a told world: where they write, and what stands there behind them.
use Rattle.std.specs.Prelude.{ℕ, ◌≡◌, ◌⊎◌, ◌&&◌, ◌||◌, Bool, true, false, if◌then◌else◌, List, [], is_none, Option, Some, None, Result, Ok, Err, MatchOption}
use Rattle.std.specs.FinMap as map
use Rattle.std.specs.Str.{bytes_eq}
use Rattle.just_path.specs.Comps.{is_empty, dots, slash}
use Rattle.just_path.specs.View.{canonical_told, place_under, meta_seen, sees_folder, asks_folder, absence}
use Rattle.just_path.specs.declared.host.Miss.{Miss}
use Rattle.just_path.specs.declared.host.Miss.TheVariants as miss
use Rattle.just_host_record.specs.declared.entry.HostFault.{HostFault}
use Rattle.just_host_record.specs.declared.entry.HostFault.TheVariants as fault
use Rattle.just_host_record.specs.declared.tree.Thing.{Thing}
use Rattle.just_host_record.specs.declared.tree.Thing.TheVariants as thing
use Rattle.just_host_record.specs.Disk.{StaysUntold}
use Rattle.just_host_record.specs.Sights.{Tree, seen}
use Rattle.just_host_record.specs.World.{World, view_of}

-- a world with another tree
abbrev pub with_tree : World → Tree → World
with_tree w tree = record { tree = tree; current = w.current; environ = w.environ; input = w.input; harmless = w.harmless; disk = w.disk }

-- the folder that a place is in; the root is in itself
abbrev pub folder_of : List ℕ → List ℕ
folder_of place = place_under place dots

-- whether a folder stands at a place; the root is always one
abbrev pub holds_folder : Tree → List ℕ → Bool
holds_folder tree place = bytes_eq place slash || sees_folder (meta_seen place (seen tree))

-- whether something can be put at a place: nothing stands there, and it is in a folder
abbrev pub is_open_place : Tree → List ℕ → Bool
is_open_place tree place = is_none (map.get tree place) && holds_folder tree (folder_of place)

-- a place at which a file stands
abbrev pub file_at : List ℕ → Option Thing → Result (List ℕ) Miss
file_at place (Some (thing.File bytes executable)) = Ok place
file_at place (Some thing.Folder) = Err miss.IsFolder
file_at place (Some (thing.Link target)) = Err miss.NotFound
file_at place None = Err miss.NotFound

-- the place of a new file; a path that asks for a folder has none
abbrev pub new_place : Tree → List ℕ → List ℕ → Result (List ℕ) Miss
new_place tree path place =
    if is_empty path || asks_folder path then Err miss.NotFound
    else (if is_open_place tree place then Ok place else Err (absence place (seen tree)))

abbrev pub is_not_found : Miss → Bool
is_not_found miss.NotFound = true
is_not_found miss.NotFolder = false
is_not_found miss.IsFolder = false
is_not_found miss.NotUtf8 = false
is_not_found miss.NotEmpty = false
is_not_found miss.TooLarge = false

abbrev pub place_found : World → List ℕ → Result (List ℕ) Miss → Result (List ℕ) Miss
place_found w path (Ok place) = file_at place (map.get w.tree place)
place_found w path (Err m) = if is_not_found m then new_place w.tree path (place_under w.current path) else Err m

-- the place where a file is written: that of the file where the path leads, else, where nothing is found, its place under the current folder
abbrev pub place_written : World → List ℕ → Result (List ℕ) Miss
place_written w path = place_found w path (canonical_told path (view_of w))

abbrev pub runs : Option Thing → Bool
runs (Some (thing.File bytes executable)) = executable
runs (Some thing.Folder) = false
runs (Some (thing.Link target)) = false
runs None = false

-- a tree in which the file at a place holds these bytes. It may be run if it might before
abbrev pub put_bytes : Tree → List ℕ → List ℕ → Tree
put_bytes tree place bytes = map.insert tree place (thing.File bytes (runs (map.get tree place)))

abbrev pub written_at : Tree → List ℕ → Result (List ℕ) Miss → Result Tree Miss
written_at tree bytes (Ok place) = Ok (put_bytes tree place bytes)
written_at tree bytes (Err m) = Err m

-- the files where the one at a path holds these bytes, or the miss that the world shows
abbrev pub written : World → List ℕ → List ℕ → Result Tree Miss
written w path bytes = written_at w.tree bytes (place_written w path)

-- a tree with a new empty file at a place, where one can be put there; its folder is made too where it lacks and can be
abbrev pub with_entry : Tree → List ℕ → Result Tree Miss
with_entry tree place =
    if is_open_place tree place then Ok (map.insert tree place (thing.File [] false))
    else (if is_none (map.get tree place) && is_open_place tree (folder_of place)
    then Ok (map.insert (map.insert tree (folder_of place) thing.Folder) place (thing.File [] false))
    else Err (absence place (seen tree)))

abbrev pub kept : Tree → Result (List ℕ) Miss → Result Tree Miss
kept tree (Ok place) = Ok tree
kept tree (Err m) = Err m

-- the same at the place of a path, which doesn't ask for a folder
abbrev pub new_entry : Tree → List ℕ → List ℕ → Result Tree Miss
new_entry tree path place = if is_empty path || asks_folder path then Err miss.NotFound else with_entry tree place

abbrev pub entry_found : World → List ℕ → Result (List ℕ) Miss → Result Tree Miss
entry_found w path (Ok place) = kept w.tree (file_at place (map.get w.tree place))
entry_found w path (Err m) = if is_not_found m then new_entry w.tree path (place_under w.current path) else Err m

-- the files where a cache entry is there: as they were where a file is found, else with an empty one; or the miss that the world shows
abbrev pub with_cache_entry : World → List ℕ → Result Tree Miss
with_cache_entry w path = entry_found w path (canonical_told path (view_of w))

-- a place is that of an entry under the current folder, or of the folder that this is in
abbrev pub IsOfEntry : World → List ℕ → List ℕ → Type 0
IsOfEntry w path place = (place ≡ place_under w.current path) ⊎ (place ≡ folder_of (place_under w.current path))

-- two worlds that differ at most in what stands at these places, and in their disks
pub record DiffersAt (places : List ℕ → Type 0) (v w : World) : Type 0 where
  pub tree : (place : List ℕ) → (places place → ⊥) → map.get w.tree place ≡ map.get v.tree place
  pub current : w.current ≡ v.current
  pub environ : w.environ ≡ v.environ
  pub input : w.input ≡ v.input
  pub disk : StaysUntold v.disk w.disk

abbrev pub FaultChanges : (World → Result Tree Miss) → (World → List ℕ → Type 0) → World → Option World → HostFault → Type 0
FaultChanges change places w new (fault.Missed m) = (change w ≡ Err m) × (new ≡ Some w)
FaultChanges change places w new (fault.Failed c) = MatchOption new ⊥ (λ v. DiffersAt (places w) w v)
FaultChanges change places w new fault.NoMemory = new ≡ Some w

-- a call that makes these files of a told world, or misses as this says. Where it fails, at most these places are touched; a miss and want of
-- memory leave all as it was. A world that isn't told stays untold
abbrev pub Changes : {A : Type 0} → (World → Result Tree Miss) → (World → List ℕ → Type 0) → Option World → Option World → Result A HostFault → Type 0
Changes change places None new result = new ≡ None
Changes change places (Some w) new (Ok x) = (tree : Tree) × (change w ≡ Ok tree) × (new ≡ Some (with_tree w tree))
Changes change places (Some w) new (Err e) = FaultChanges change places w new e
