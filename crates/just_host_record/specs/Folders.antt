-- What the calls that make temporary folders and remove files make of a told world.
use Rattle.std.specs.Prelude.{ℕ, ◌≡◌, ◌≢◌, ◌⊎◌, true, false, List, [], ◌++◌, is_some, Option, Some, None, Result, Ok, Err, MatchOption}
use Rattle.std.specs.FinMap as map
use Rattle.just_path.specs.Path.{pushed, is_absolute}
use Rattle.just_path.specs.View.{folder_told, place_told, place_under, is_name}
use Rattle.just_path.specs.declared.host.Miss.{Miss}
use Rattle.just_path.specs.declared.host.Miss.TheVariants as miss
use Rattle.just_host_record.specs.declared.entry.HostFault.{HostFault}
use Rattle.just_host_record.specs.declared.entry.HostFault.TheVariants as fault
use Rattle.just_host_record.specs.declared.tree.Thing.TheVariants as thing
use Rattle.just_host_record.specs.Sights.{Tree}
use Rattle.just_host_record.specs.World.{World, view_of}
use Rattle.just_host_record.specs.Changes.{with_tree, DiffersAt}

-- the folder that a temporary one is made in: where that path leads; where none is asked for the host chooses
abbrev pub IsParent : World → Option (List ℕ) → List ℕ → Type 0
IsParent w None folder = is_absolute folder ≡ true
IsParent w (Some path) folder = folder_told path (view_of w) ≡ Ok folder

-- a place in a folder at which nothing stands. Its name begins with that prefix
pub record IsFresh (w : World) (folder prefix place : List ℕ) : Type 0 where
  pub free : map.get w.tree place ≡ None
  pub name : (rest : List ℕ) × (is_name rest ≡ true) × (place ≡ place_under folder (prefix ++ rest))

-- a world has one thing more, which is a folder at that place
abbrev pub GainsFolder : World → Option World → List ℕ → Type 0
GainsFolder w new place = new ≡ Some (with_tree w (map.insert w.tree place thing.Folder))

abbrev pub ParentMiss : World → Option (List ℕ) → Miss → Type 0
ParentMiss w None m = ⊥
ParentMiss w (Some path) m = folder_told path (view_of w) ≡ Err m

abbrev pub TempFault : World → Option World → Option (List ℕ) → HostFault → Type 0
TempFault w new parent (fault.Missed m) = ParentMiss w parent m × (new ≡ Some w)
TempFault w new parent (fault.Failed c) = new ≡ Some w
TempFault w new parent fault.NoMemory = new ≡ Some w

-- over a told world a temporary folder is a fresh one, and the only change; a miss is that of the folder it is made in. A refusal leaves all as
-- it was. A world that isn't told stays untold
abbrev pub TempTells : Option World → Option World → Option (List ℕ) → List ℕ → Result (List ℕ) HostFault → Type 0
TempTells None new parent prefix result = new ≡ None
TempTells (Some w) new parent prefix (Ok place) = ((folder : List ℕ) × IsParent w parent folder × IsFresh w folder prefix place) × GainsFolder w new place
TempTells (Some w) new parent prefix (Err e) = TempFault w new parent e

-- a place is below another one
abbrev pub IsBelow : List ℕ → List ℕ → Type 0
IsBelow place below = (rest : List ℕ) × (rest ≢ []) × (below ≡ pushed place [] ++ rest)

-- no folder stands at a place, or one that is empty
abbrev pub HoldsNothing : Tree → List ℕ → Type 0
HoldsNothing tree place = map.get tree place ≡ Some thing.Folder → (below : List ℕ) → IsBelow place below → map.get tree below ≡ None

-- a folder stands at a place, and it isn't empty
pub record HoldsSomething (tree : Tree) (place : List ℕ) : Type 0 where
  pub folder : map.get tree place ≡ Some thing.Folder
  pub item : (below : List ℕ) × IsBelow place below × (is_some (map.get tree below) ≡ true)

-- where a path leads that is to be removed; a link is itself removed
abbrev pub removed_place : World → List ℕ → Result (List ℕ) Miss
removed_place w path = place_told path false (view_of w)

abbrev pub RemoveMiss : World → List ℕ → Miss → Type 0
RemoveMiss w path m = (removed_place w path ≡ Err m) ⊎ ((m ≡ miss.NotEmpty) × ((place : List ℕ) × (removed_place w path ≡ Ok place) × HoldsSomething w.tree place))

abbrev pub RemoveFault : World → Option World → List ℕ → HostFault → Type 0
RemoveFault w new path (fault.Missed m) = RemoveMiss w path m × (new ≡ Some w)
RemoveFault w new path (fault.Failed c) = MatchOption new ⊥ (λ v. DiffersAt (λ place. removed_place w path ≡ Ok place) w v)
RemoveFault w new path fault.NoMemory = new ≡ Some w

-- over a told world what stands where a path leads is gone, a file, a link or an empty folder, and nothing else; a miss is one that the world
-- shows, and leaves all as it was. A world that isn't told stays untold
abbrev pub Removes : {A : Type 0} → Option World → Option World → List ℕ → Result A HostFault → Type 0
Removes None new path result = new ≡ None
Removes (Some w) new path (Ok x) = (place : List ℕ) × (removed_place w path ≡ Ok place) × HoldsNothing w.tree place × (new ≡ Some (with_tree w (map.remove w.tree place)))
Removes (Some w) new path (Err e) = RemoveFault w new path e
