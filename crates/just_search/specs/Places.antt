-- Where temporary folders, and their removal, change a told world.
use Rattle.std.specs.Prelude.{ℕ, ◌≡◌, ◌⊎◌, true, false, is_some, List, Option, Some, Result, MatchOption}
use Rattle.std.specs.FinMap as map
use Rattle.std.specs.List.{Contains, AllByRecursion}
use Rattle.just_path.specs.Path.{is_absolute}
use Rattle.just_path.specs.Clean.{cleaned}
use Rattle.just_path.specs.View.{IsCleanView, asks_folder}
use Rattle.just_host_record.specs.Sights.{Tree}
use Rattle.just_host_record.specs.World.{World, Moment, view_of}
use Rattle.just_host_record.specs.Changes.{DiffersAt, folder_of, holds_folder}
use Rattle.just_env.specs.declared.search_error.SearchError.{SearchError}
use Rattle.just_search.specs.declared.search_result.Search.{Search}
use Rattle.just_search.specs.declared.location.Location.{Location}
use Rattle.just_search.specs.Files.{Materializes}
use Rattle.just_search.specs.Removals.{IsWithin, RemovesAll, RemovesSome}

-- an absolute path that doesn't ask for a folder: where it names a link, the link itself is meant
abbrev pub NamesItem : List ℕ → Type 0
NamesItem path = (is_absolute path ≡ true) × (asks_folder path ≡ false)

-- each thing of a tree stands in a folder
abbrev pub StandsInFolders : Tree → Type 0
StandsInFolders tree = (place : List ℕ) → is_some (map.get tree place) ≡ true → holds_folder tree (folder_of place) ≡ true

-- a place is that of one of some folders, of an item in it, or of an item in such an item
abbrev pub IsInFolders : List (List ℕ) → List ℕ → Type 0
IsInFolders folders place = (folder : List ℕ) × (path : List ℕ) × Contains folders folder × IsWithin folder path × (place ≡ cleaned path)

-- a told world is as it was, but for what stands in some folders
abbrev pub ChangesIn : List (List ℕ) → World → Option World → Type 0
ChangesIn folders w after = MatchOption after ⊥ (λ v. DiffersAt (IsInFolders folders) w v)

-- A justfile that becomes a file changes a told world, in which each thing stands in a folder, in the temporary folder alone that is made for it
abbrev pub MakesInFolders : Type 0
MakesInFolders = (w : World) (after : Option World) (parent : Option (List ℕ)) (place : Location) (folders : List (List ℕ)) (r : Result Search SearchError) → IsCleanView (view_of w) → StandsInFolders w.tree
    → Materializes (Some w) after parent place folders r → ChangesIn folders w after × AllByRecursion NamesItem folders

-- and the removal of such folders changes it in these alone
abbrev pub RemovesInFolders : Type 0
RemovesInFolders = (before after : Moment) (folders : List (List ℕ)) → AllByRecursion NamesItem folders
    → RemovesAll before folders after ⊎ RemovesSome before folders after
    → MatchOption before.world (Unit {0}) (λ w. ChangesIn folders w after.world)
