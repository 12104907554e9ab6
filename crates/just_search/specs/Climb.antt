-- The folders from one upwards, and the justfile that is found there.
use Rattle.std.specs.Prelude.{ℕ, ◌≡◌, Bool, false, if◌then◌else◌, List, [], ◌∷◌, filter, Option, Some, None, Result, Ok, Err}
use Rattle.std.specs.List.{list_any}
use Rattle.std.specs.Ordering.{is_eq}
use Rattle.std.specs.Str.{str_eq_ignore_ascii_case}
use Rattle.just_path.specs.Ancestors.{ancestors_of}
use Rattle.just_path.specs.Order.{path_cmp}
use Rattle.just_path.specs.Path.{pushed}
use Rattle.just_host_record.specs.World.{World}
use Rattle.just_env.specs.declared.search_error.SearchError.{SearchError}
use Rattle.just_env.specs.declared.search_error.SearchError.TheVariants as error
use Rattle.just_search.specs.First.{First}
use Rattle.just_search.specs.Listing.{ListsFolder}

-- whether a folder is the ceiling: the same path as that, as it was given
abbrev pub is_ceiling : Option (List ℕ) → List ℕ → Bool
is_ceiling None folder = false
is_ceiling (Some ceiling) folder = is_eq (path_cmp folder ceiling)

-- the folders up to the ceiling, which is the last of them
abbrev pub up_to : Option (List ℕ) → List (List ℕ) → List (List ℕ)
up_to ceiling [] = []
up_to ceiling (folder ∷ folders) = folder ∷ (if is_ceiling ceiling folder then [] else up_to ceiling folders)

-- a folder and those above it, up to the ceiling
abbrev pub folders_from : Option (List ℕ) → List ℕ → List (List ℕ)
folders_from ceiling start = up_to ceiling (ancestors_of start)

abbrev pub behind_first : List (List ℕ) → List (List ℕ)
behind_first [] = []
behind_first (folder ∷ folders) = folders

-- those above it alone
abbrev pub folders_above : Option (List ℕ) → List ℕ → List (List ℕ)
folders_above ceiling start = behind_first (folders_from ceiling start)

-- ---- justfiles

-- whether a name is one of those that are wanted, in any case of its letters
abbrev pub is_wanted : List (List ℕ) → List ℕ → Bool
is_wanted wanted name = list_any (λ w. str_eq_ignore_ascii_case name w) wanted

-- the names in a folder that may be the justfile's
abbrev pub candidates : List (List ℕ) → List (List ℕ) → List (List ℕ)
candidates wanted names = filter (is_wanted wanted) names

-- the one candidate of a folder; several are refused
abbrev pub chosen : List ℕ → List (List ℕ) → Option (Result (List ℕ) SearchError)
chosen folder [] = None
chosen folder (name ∷ []) = Some (Ok (pushed folder name))
chosen folder (name ∷ (other ∷ others)) = Some (Err (error.MultipleCandidates folder (name ∷ (other ∷ others))))

-- what a look for a justfile in a folder decides
pub data LooksIn (told : Option World) (wanted : List (List ℕ)) (folder : List ℕ) (o : Option (Result (List ℕ) SearchError)) : Type 0 where
  listed : (names : List (List ℕ)) → ListsFolder told folder (Ok names) → o ≡ chosen folder (candidates wanted names) → LooksIn told wanted folder o
  unlisted : (e : SearchError) → ListsFolder told folder (Err e) → o ≡ Some (Err e) → LooksIn told wanted folder o

-- the justfile in the first of some folders that has a candidate
abbrev pub FindsIn : Option World → List (List ℕ) → List (List ℕ) → Result (List ℕ) SearchError → Type 0
FindsIn told wanted folders r = First (LooksIn told wanted) folders (Err error.NotFound) r
