-- What the call that makes a folder with those above it makes of a told world.
use Rattle.std.specs.Prelude.{ℕ, zero, suc, ◌≡◌, if◌then◌else◌, List, length, is_none, Result, Ok, Err}
use Rattle.std.specs.FinMap as map
use Rattle.just_path.specs.Comps.{is_empty}
use Rattle.just_path.specs.View.{folder_told, place_under}
use Rattle.just_path.specs.declared.host.Miss.{Miss}
use Rattle.just_path.specs.declared.host.Miss.TheVariants as miss
use Rattle.just_host_record.specs.declared.tree.Thing.TheVariants as thing
use Rattle.just_host_record.specs.Sights.{Tree}
use Rattle.just_host_record.specs.World.{World, view_of}
use Rattle.just_host_record.specs.Changes.{folder_of, holds_folder, is_not_found}

-- the same files with a folder at that place
abbrev pub and_folder : List ℕ → Result Tree Miss → Result Tree Miss
and_folder place (Ok tree) = Ok (map.insert tree place thing.Folder)
and_folder place (Err m) = Err m

-- the files with a folder at a place: as they are where one stands there; where nothing does, with the folder that the place is in, which is
-- made in the same way, up to n folders above each other. What else stands at one of these places isn't replaced, and no folder is found there
abbrev pub with_folders : Tree → ℕ → List ℕ → Result Tree Miss
with_folders tree zero place = Ok tree
with_folders tree (suc n) place =
    if holds_folder tree place then Ok tree
    else (if is_none (map.get tree place) then and_folder place (with_folders tree n (folder_of place))
    else Err miss.NotFound)

-- the same at the place of a path, which has no more folders above it than bytes; the empty path leads nowhere
abbrev pub new_folder : Tree → List ℕ → List ℕ → Result Tree Miss
new_folder tree path place = if is_empty path then Err miss.NotFound else with_folders tree (length place) place

abbrev pub folder_found : World → List ℕ → Result (List ℕ) Miss → Result Tree Miss
folder_found w path (Ok place) = Ok w.tree
folder_found w path (Err m) = if is_not_found m then new_folder w.tree path (place_under w.current path) else Err m

-- the files where a path leads to a folder: as they were where it does; where nothing is found, with a folder at its place under the current folder;
-- or the miss that the world shows, as where something else is found
abbrev pub with_folder : World → List ℕ → Result Tree Miss
with_folder w path = folder_found w path (folder_told path (view_of w))

-- the place n folders above a place
abbrev pub above : ℕ → List ℕ → List ℕ
above zero place = place
above (suc n) place = above n (folder_of place)

-- a place is that of a path under the current folder, or that of a folder above it
abbrev pub IsOfFolder : World → List ℕ → List ℕ → Type 0
IsOfFolder w path place = (n : ℕ) × (place ≡ above n (place_under w.current path))
