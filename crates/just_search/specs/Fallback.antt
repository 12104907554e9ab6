-- The justfiles that are tried one behind the other.
use Rattle.std.specs.Prelude.{ℕ, ◌≡◌, ◌≤◌, Bool, true, false, if◌then◌else◌, List, [], ◌∷◌, length, Option, Some, None, Result, Ok, Err}
use Rattle.just_host_record.specs.World.{World}
use Rattle.just_config.specs.declared.config.Config.{Config}
use Rattle.just_config.specs.declared.search_config.SearchConfig.{SearchConfig}
use Rattle.just_config.specs.declared.search_config.SearchConfig.TheVariants as search
use Rattle.just_env.specs.declared.search_error.SearchError.{SearchError}
use Rattle.just_env.specs.declared.search_error.SearchError.TheVariants as error
use Rattle.just_search.specs.declared.location.Location.{Location}
use Rattle.just_search.specs.Finding.{FindsAbove}

-- whether the justfile is looked for folder by folder
abbrev pub is_search : SearchConfig → Bool
is_search search.FromInvocationDirectory = true
is_search (search.FromSearchDirectory folder) = true
is_search search.GlobalJustfile = false
is_search (search.StandardInput folder) = false
is_search (search.WithJustfile file) = false
is_search (search.WithJustfileAndWorkingDirectory file folder) = false

abbrev pub is_not_found : SearchError → Bool
is_not_found error.NotFound = true
is_not_found (error.FilesystemIo path io) = false
is_not_found error.GlobalJustfileInit = false
is_not_found error.GlobalJustfileNotFound = false
is_not_found error.InitWithJustfileFromStandardInput = false
is_not_found (error.JustfileHadNoParent path) = false
is_not_found (error.MultipleCandidates folder candidates) = false
is_not_found (error.StdinIo io) = false
is_not_found (error.TempdirIo io) = false
is_not_found (error.Load path io) = false
is_not_found (error.Lang e) = false
is_not_found error.NoMemory = false

-- what a search above a folder finds, as what is tried next: nothing is tried where nothing is found
abbrev pub next_found : Result Location SearchError → Result (Option Location) SearchError
next_found (Ok location) = Ok (Some location)
next_found (Err e) = if is_not_found e then Ok None else Err e

-- The justfile that is tried behind one in a folder: the one above that, and none under the settings that don't search. Over a host that tells no
-- world a listing may hold a name with a slash in it, so that the file of that name stands no higher; then none is tried either.
pub data FallsBack (told : Option World) (config : Config) (folder : List ℕ) (r : Result (Option Location) SearchError) : Type 0 where
  above : is_search config.search_config ≡ true → (found : Result Location SearchError) → FindsAbove told config folder found → r ≡ next_found found → FallsBack told config folder r
  given : is_search config.search_config ≡ false → r ≡ Ok None → FallsBack told config folder r
  astray : is_search config.search_config ≡ true → told ≡ None → (location : Location) → FindsAbove told config folder (Ok location) → length folder ≤ length location.working_directory → r ≡ Ok None
      → FallsBack told config folder r

-- The justfiles that are tried from one on, given which of them set fallback. Behind one that does stands the one that is tried next, where there is
-- one; a search that is refused is the last item.
pub data AreTried (told : Option World) (config : Config) (SetsFallback : Location → Bool → Type 0) : Location → List (Result Location SearchError) → Type 0 where
  alone : (location : Location) → SetsFallback location false → AreTried told config SetsFallback location (Ok location ∷ [])
  highest : (location : Location) → SetsFallback location true → FallsBack told config location.working_directory (Ok None) → AreTried told config SetsFallback location (Ok location ∷ [])
  refused : (location : Location) (e : SearchError) → SetsFallback location true → FallsBack told config location.working_directory (Err e)
      → AreTried told config SetsFallback location (Ok location ∷ Err e ∷ [])
  behind : (location next : Location) (items : List (Result Location SearchError)) → SetsFallback location true → FallsBack told config location.working_directory (Ok (Some next))
      → AreTried told config SetsFallback next items → AreTried told config SetsFallback location (Ok location ∷ items)
