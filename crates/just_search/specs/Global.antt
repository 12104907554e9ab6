-- The user's own justfile.
use Rattle.std.specs.Prelude.{ℕ, ◌≡◌, if◌then◌else◌, List, [], ◌∷◌, ◌++◌, Option, Some, None, option_map, Result, Ok, Err, codes}
use Rattle.std.specs.List.{find}
use Rattle.std.specs.Str.{str_eq_ignore_ascii_case}
use Rattle.just_path_text.specs.Environ.{or_else, value_of, home_of}
use Rattle.just_path.specs.Path.{pushed, is_absolute}
use Rattle.just_host_record.specs.declared.entry.Entry.{Entry}
use Rattle.just_host_record.specs.World.{World}
use Rattle.just_env.specs.declared.search_error.SearchError.{SearchError}
use Rattle.just_env.specs.declared.search_error.SearchError.TheVariants as error
use Rattle.just_env.specs.Answers.{entries_of}
use Rattle.just_search.specs.declared.place.Place.{Place}
use Rattle.just_search.specs.Listing.{ListsFolder}

-- a path, if it is absolute
abbrev pub if_absolute : Option (List ℕ) → Option (List ℕ)
if_absolute None = None
if_absolute (Some path) = if is_absolute path then Some path else None

-- the folder of the user's configuration: `XDG_CONFIG_HOME` where it is absolute, else `.config` in the home folder
abbrev pub config_folder : List (List ℕ × List ℕ) → Option (List ℕ)
config_folder environ = or_else (if_absolute (value_of (codes "XDG_CONFIG_HOME") environ)) (option_map (λ home. pushed home (codes ".config")) (home_of environ))

-- a folder, and a name in it
abbrev pub place_of : List ℕ → List ℕ → Place
place_of folder name = record { folder = folder; name = name }

abbrev pub place_in_config : Option (List ℕ) → List Place
place_in_config None = []
place_in_config (Some folder) = place_of (pushed folder (codes "just")) (codes "justfile") ∷ []

abbrev pub places_at_home : Option (List ℕ) → List Place
places_at_home None = []
places_at_home (Some home) = place_of (pushed home (codes ".config/just")) (codes "justfile") ∷ place_of home (codes "justfile") ∷ place_of home (codes ".justfile") ∷ []

-- where the user's own justfile may be, in the order in which it is looked for
abbrev pub global_places : List (List ℕ × List ℕ) → List Place
global_places environ = place_in_config (config_folder environ) ++ places_at_home (home_of environ)

-- the first of some names that is a name in any case of its letters
abbrev pub same_name : List ℕ → List (List ℕ) → Option (List ℕ)
same_name wanted names = find (λ name. str_eq_ignore_ascii_case name wanted) names

-- What a look at a place finds, and the entries that it leaves: those of a listing that was refused. A folder that can't be listed has nothing.
pub data LooksAtPlace (told : Option World) (place : Place) (gained : List Entry) (o : Option (List ℕ)) : Type 0 where
  listed : (names : List (List ℕ)) → ListsFolder told place.folder (Ok names) → gained ≡ [] → o ≡ option_map (λ name. pushed place.folder name) (same_name place.name names) → LooksAtPlace told place gained o
  unlisted : (e : SearchError) → ListsFolder told place.folder (Err e) → gained ≡ entries_of e → o ≡ None → LooksAtPlace told place gained o

-- the justfile at the first of some places that has one, with the entries that the looks leave, one behind the other
pub data FindsAmong (told : Option World) : List Place → List Entry → Result (List ℕ) SearchError → Type 0 where
  nowhere : FindsAmong told [] [] (Err error.GlobalJustfileNotFound)
  at_first : (place : Place) (places : List Place) (gained : List Entry) (file : List ℕ) → LooksAtPlace told place gained (Some file) → FindsAmong told (place ∷ places) gained (Ok file)
  behind : (place : Place) (places : List Place) (gained more : List Entry) (r : Result (List ℕ) SearchError)
      → LooksAtPlace told place gained None → FindsAmong told places more r → FindsAmong told (place ∷ places) (gained ++ more) r

-- the user's own justfile
abbrev pub FindsGlobal : Option World → List (List ℕ × List ℕ) → List Entry → Result (List ℕ) SearchError → Type 0
FindsGlobal told environ gained r = FindsAmong told (global_places environ) gained r
