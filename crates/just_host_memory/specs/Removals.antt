-- What temporary folders and removals make of a tree in memory.
use Rattle.std.specs.Prelude.{ℕ, ◌≡◌, ◌≢◌, ◌++◌, Bool, true, false, List, [], is_some, None, Option, Result, Ok, Err}
use Rattle.std.specs.FinMap as map
use Rattle.just_host_record.specs.Sights.{Tree}
use Rattle.just_host_record.specs.World.{World}
use Rattle.just_host_record.specs.Folders.{IsBelow, HoldsNothing, HoldsSomething, RemoveMiss, removed_place, IsParent, ParentMiss}
use Rattle.just_host_memory.specs.declared.sights.TreeFault.{TreeFault}
use Rattle.just_host_memory.specs.declared.sights.TreeFault.TheVariants as fault
use Rattle.just_host_memory.specs.declared.place.Place.{Place}

-- whether a path is a front with something behind it, and what that says
abbrev pub IsAfter : Bool → List ℕ → List ℕ → Type 0
IsAfter true front path = (rest : List ℕ) × (rest ≢ []) × (path ≡ front ++ rest)
IsAfter false front path = (rest : List ℕ) → rest ≢ [] → path ≢ front ++ rest

-- whether something stands below a place, and what that says
abbrev pub IsHeld : Bool → Tree → List ℕ → Type 0
IsHeld true tree place = (below : List ℕ) × IsBelow place below × (is_some (map.get tree below) ≡ true)
IsHeld false tree place = (below : List ℕ) → IsBelow place below → map.get tree below ≡ None

-- whether a folder stands at a place and isn't empty, and what that says
abbrev pub IsFilled : Bool → Tree → List ℕ → Type 0
IsFilled true tree place = HoldsSomething tree place
IsFilled false tree place = HoldsNothing tree place

-- what stands where a path leads is gone from the files of a world, or the miss is one that the world shows and they stay
abbrev pub RemovesFrom : {A : Type 0} → World → Tree → List ℕ → Result A TreeFault → Type 0
RemovesFrom w new path (Ok x) = (place : List ℕ) × (removed_place w path ≡ Ok place) × HoldsNothing w.tree place × (new ≡ map.remove w.tree place)
RemovesFrom w new path (Err (fault.Missed m)) = RemoveMiss w path m × (new ≡ w.tree)
RemovesFrom w new path (Err fault.NoMemory) = new ≡ w.tree

-- the folder that a temporary one is made in, or the miss that the world shows
abbrev pub ShowsParent : World → Option (List ℕ) → Result Place TreeFault → Type 0
ShowsParent w parent (Ok place) = IsParent w parent place.path
ShowsParent w parent (Err (fault.Missed m)) = ParentMiss w parent m
ShowsParent w parent (Err fault.NoMemory) = Unit {0}
