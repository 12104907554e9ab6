-- What the calls that write leave behind, said of the files before and behind them: laws of the definitions that a host's
-- answers follow (`written`, `with_folder`, `with_cache_entry`).
use Rattle.std.specs.Prelude.{ℕ, ◌≡◌, ◌⊎◌, Bool, true, false, List, [], Option, Some, None, Result, Ok, Err, MatchOption}
use Rattle.std.specs.FinMap as map
use Rattle.just_path.specs.Comps.{is_empty}
use Rattle.just_path.specs.View.{canonical_told, folder_told, place_under, asks_folder}
use Rattle.just_path.specs.declared.host.Miss.TheVariants as miss
use Rattle.just_host_record.specs.declared.entry.HostFault.{HostFault}
use Rattle.just_host_record.specs.declared.tree.Thing.{Thing}
use Rattle.just_host_record.specs.declared.tree.Thing.TheVariants as thing
use Rattle.just_host_record.specs.Sights.{Tree}
use Rattle.just_host_record.specs.World.{World, view_of}
use Rattle.just_host_record.specs.Changes.{folder_of, holds_folder, runs}
use Rattle.just_host_record.specs.NewFolders.{IsOfFolder}

-- a path leads to a file
pub record LeadsToFile (w : World) (path place : List ℕ) : Type 0 where
  pub leads : canonical_told path (view_of w) ≡ Ok place
  pub file : (bytes : List ℕ) × (executable : Bool) × (map.get w.tree place ≡ Some (thing.File bytes executable))

-- nothing is found by a path, and it names a file; the place is its own
pub record NamesNewFile (w : World) (path place : List ℕ) : Type 0 where
  pub missing : canonical_told path (view_of w) ≡ Err miss.NotFound
  pub named : is_empty path ≡ false
  pub file : asks_folder path ≡ false
  pub own : place ≡ place_under w.current path
  pub free : map.get w.tree place ≡ None

-- such a path, whose folder is there
abbrev pub IsNewFile : World → List ℕ → List ℕ → Type 0
IsNewFile w path place = NamesNewFile w path place × (holds_folder w.tree (folder_of place) ≡ true)

-- where a write goes: to the file that its path leads to; where nothing is found, to the path's own place in its folder
abbrev pub IsWritten : World → List ℕ → List ℕ → Type 0
IsWritten w path place = LeadsToFile w path place ⊎ IsNewFile w path place

-- behind a write one place holds these bytes, a file that may be run if it might before; all else stands as it did
pub record IsPut (w : World) (path bytes place : List ℕ) (new : Tree) : Type 0 where
  pub goes : IsWritten w path place
  pub file : map.get new place ≡ Some (thing.File bytes (runs (map.get w.tree place)))
  pub rest : (q : List ℕ) → (q ≡ place → ⊥) → map.get new q ≡ map.get w.tree q

abbrev pub IsPutSomewhere : World → List ℕ → List ℕ → Tree → Type 0
IsPutSomewhere w path bytes new = (place : List ℕ) × IsPut w path bytes place new

-- the folder that lacks for a new file, and that can be made: it is in a folder itself, and is there behind it
pub record LacksFolder (w : World) (place : List ℕ) (new : Tree) : Type 0 where
  pub lacks : map.get w.tree (folder_of place) ≡ None
  pub folder : holds_folder w.tree (folder_of (folder_of place)) ≡ true
  pub made : (folder_of place ≡ place → ⊥) → map.get new (folder_of place) ≡ Some thing.Folder

-- behind the look at a cache entry that wasn't there its own place holds an empty file; its folder was there or is made, and all else stands
-- as it did
pub record IsNewEntry (w : World) (path : List ℕ) (new : Tree) : Type 0 where
  pub names : NamesNewFile w path (place_under w.current path)
  pub file : map.get new (place_under w.current path) ≡ Some (thing.File [] false)
  pub folder : (holds_folder w.tree (folder_of (place_under w.current path)) ≡ true) ⊎ LacksFolder w (place_under w.current path) new
  pub rest : (q : List ℕ) → (q ≡ place_under w.current path → ⊥) → (q ≡ folder_of (place_under w.current path) → ⊥) → map.get new q ≡ map.get w.tree q

-- the entry was there and all is as it was, or it is new
abbrev pub HasEntry : World → List ℕ → Tree → Type 0
HasEntry w path new = (((place : List ℕ) × LeadsToFile w path place) × (new ≡ w.tree)) ⊎ IsNewEntry w path new

-- nothing that stood in a tree is changed; what is new are folders, at the place of a path or above it
pub record AddsFolders (w : World) (path : List ℕ) (new : Tree) : Type 0 where
  pub kept : (q : List ℕ) (t : Thing) → map.get w.tree q ≡ Some t → map.get new q ≡ Some t
  pub made : (q : List ℕ) → map.get w.tree q ≡ None → (map.get new q ≡ None) ⊎ ((map.get new q ≡ Some thing.Folder) × IsOfFolder w path q)

-- a path led to a folder, and all is as it was; or nothing was found by it, and a folder stands at its own place
abbrev pub HasFolder : World → List ℕ → Tree → Type 0
HasFolder w path new =
    (((place : List ℕ) × (folder_told path (view_of w) ≡ Ok place)) × (new ≡ w.tree))
    ⊎ ((folder_told path (view_of w) ≡ Err miss.NotFound) × (holds_folder new (place_under w.current path) ≡ true))

-- behind a call that makes a folder with those above it
pub record MakesFolder (w : World) (path : List ℕ) (new : Tree) : Type 0 where
  pub adds : AddsFolders w path new
  pub there : HasFolder w path new

-- a call that answers over a told world leaves such files
abbrev pub LeavesFiles : {A : Type 0} → (World → Tree → Type 0) → Option World → Option World → Result A HostFault → Type 0
LeavesFiles leaves None new result = Unit {0}
LeavesFiles leaves (Some w) new (Ok x) = MatchOption new ⊥ (λ v. leaves w v.tree)
LeavesFiles leaves (Some w) new (Err e) = Unit {0}
