-- What a tree in memory is, and what its answers show.
use Rattle.std.specs.Prelude.{ℕ, ◌≡◌, Bool, true, if◌then◌else◌, List, [], ◌∷◌, None, Result, Ok, Err}
use Rattle.std.specs.FinMap as map
use Rattle.just_path.specs.View.{View}
use Rattle.just_path.specs.declared.host.Miss.{Miss}
use Rattle.just_path.specs.declared.host.Miss.TheVariants as miss
use Rattle.just_host_record.specs.declared.tree.Thing.TheVariants as thing
use Rattle.just_host_record.specs.Sights.{Tree, seen}
use Rattle.just_host_record.specs.World.{World}
use Rattle.just_host_record.specs.Changes.{is_not_found}
use Rattle.just_host_memory.specs.declared.files.Tree.{Tree as Things}
use Rattle.just_host_memory.specs.declared.sights.TreeFault.{TreeFault}
use Rattle.just_host_memory.specs.declared.sights.TreeFault.TheVariants as fault
use Rattle.just_host_memory.specs.declared.place.Place.{Place}
use Rattle.just_host_memory.specs.Files.{files_in}

-- the map that a tree is
abbrev pub files_of : Things → Tree
files_of t = files_in t.things.items

-- a tree as it is seen from a folder
abbrev pub view_from : List ℕ → Tree → View
view_from folder tree = record { current = folder; tree = seen tree }

-- an answer is, as it is looked at, the one that is told, and a miss the one that is told
abbrev pub Shows : {A B : Type 0} → (A → B) → Result B Miss → Result A TreeFault → Type 0
Shows look told (Ok x) = told ≡ Ok (look x)
Shows look told (Err (fault.Missed m)) = told ≡ Err m
Shows look told (Err fault.NoMemory) = Unit {0}

-- a place that is answered is the one that is told
abbrev pub ShowsPlace : Result (List ℕ) Miss → Result Place TreeFault → Type 0
ShowsPlace told result = Shows (λ p. p.path) told result

-- the place of what is to be made behind a miss: this one, where nothing was found by a path that can name it
abbrev pub place_to_make : Miss → Bool → List ℕ → Result (List ℕ) Miss
place_to_make m unnamed place = if is_not_found m then (if unnamed then Err miss.NotFound else Ok place) else Err m

-- a world of which only its files and its current folder matter
abbrev pub world_from : List ℕ → Tree → World
world_from folder tree = record { tree = tree; current = folder; environ = []; input = []; harmless = λ spec. true; disk = None }

-- a tree after a call is the one that is told, and a miss the one that is told
abbrev pub ShowsTree : {A : Type 0} → Result Tree Miss → Tree → Result A TreeFault → Type 0
ShowsTree told new (Ok x) = told ≡ Ok new
ShowsTree told new (Err (fault.Missed m)) = told ≡ Err m
ShowsTree told new (Err fault.NoMemory) = Unit {0}

-- a tree with folders at these places
abbrev pub with_folders_at : Tree → List Place → Tree
with_folders_at tree [] = tree
with_folders_at tree (p ∷ ps) = map.insert (with_folders_at tree ps) p.path thing.Folder
