-- The root of a project.
use Rattle.std.specs.Prelude.{ℕ, ◌≡◌, Bool, if◌then◌else◌, List, [], ◌∷◌, Option, Some, None, Result, Ok, Err, codes, bytes_eq}
use Rattle.std.specs.List.{list_any}
use Rattle.just_host_record.specs.World.{World}
use Rattle.just_env.specs.declared.search_error.SearchError.{SearchError}
use Rattle.just_search.specs.Climb.{folders_from}
use Rattle.just_search.specs.First.{First}
use Rattle.just_search.specs.Listing.{ListsFolder}

-- the names that stand in the root of a project
abbrev pub marks : List (List ℕ)
marks = codes ".bzr" ∷ codes ".git" ∷ codes ".hg" ∷ codes ".svn" ∷ codes "_darcs" ∷ []

abbrev pub is_mark : List ℕ → Bool
is_mark name = list_any (λ mark. bytes_eq name mark) marks

-- a folder, where one of those names stands in it
abbrev pub if_marked : List ℕ → List (List ℕ) → Option (Result (List ℕ) SearchError)
if_marked folder names = if list_any is_mark names then Some (Ok folder) else None

-- what a look for such a name in a folder decides
pub data LooksForMark (told : Option World) (folder : List ℕ) (o : Option (Result (List ℕ) SearchError)) : Type 0 where
  listed : (names : List (List ℕ)) → ListsFolder told folder (Ok names) → o ≡ if_marked folder names → LooksForMark told folder o
  unlisted : (e : SearchError) → ListsFolder told folder (Err e) → o ≡ Some (Err e) → LooksForMark told folder o

-- the root of the project that a folder is in: the first folder upwards with such a name, else the folder itself
abbrev pub FindsRoot : Option World → Option (List ℕ) → List ℕ → Result (List ℕ) SearchError → Type 0
FindsRoot told ceiling start r = First (LooksForMark told) (folders_from ceiling start) (Ok start) r
