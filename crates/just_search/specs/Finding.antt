-- Where the justfile of a configuration is, with its working folder.
use Rattle.std.specs.Prelude.{ℕ, ◌≡◌, Bool, false, if◌then◌else◌, List, [], ◌∷◌, ◌++◌, Option, Some, None, option_and_then, unwrap_or, Result, Ok, Err, codes, bytes_eq}
use Rattle.std.specs.Str.{str_eq_ignore_ascii_case}
use Rattle.just_path.specs.Clean.{cleaned}
use Rattle.just_path.specs.Comps.{is_empty, slash}
use Rattle.just_path.specs.Names.{file_name_of, extension_of}
use Rattle.just_path.specs.Parts.{parent_of}
use Rattle.just_path.specs.Path.{pushed}
use Rattle.just_path_text.specs.declared.environ.Environ.{Environ}
use Rattle.just_host_record.specs.declared.entry.Entry.{Entry}
use Rattle.just_host_record.specs.World.{World, Moment}
use Rattle.just_config.specs.declared.config.Config.{Config}
use Rattle.just_config.specs.declared.search_config.SearchConfig.{SearchConfig}
use Rattle.just_config.specs.declared.search_config.SearchConfig.TheVariants as search
use Rattle.just_env.specs.declared.search_error.SearchError.{SearchError}
use Rattle.just_env.specs.declared.search_error.SearchError.TheVariants as error
use Rattle.just_env.specs.Answers.{GivesEnviron, entries_of, told_entries}
use Rattle.just_search.specs.declared.location.Location.{Location}
use Rattle.just_search.specs.declared.location.Origin.{Origin}
use Rattle.just_search.specs.declared.location.Origin.TheVariants as origin
use Rattle.just_search.specs.Climb.{folders_from, folders_above, FindsIn}
use Rattle.just_search.specs.Global.{FindsGlobal}
use Rattle.just_search.specs.Record.{Leaves}
use Rattle.just_search.specs.Root.{FindsRoot}

-- ---- paths

-- a path that is given: under the folder in which the program was called, and clean
abbrev pub given_path : Config → List ℕ → List ℕ
given_path config path = cleaned (pushed config.invocation_directory path)

-- the folder of a file; the path itself where it has no parent
abbrev pub folder_of : List ℕ → List ℕ
folder_of file = unwrap_or (parent_of file) file

abbrev pub is_md : Option (List ℕ) → Bool
is_md None = false
is_md (Some extension) = str_eq_ignore_ascii_case extension (codes "md")

-- whether a file's extension is `md` in any case of its letters
abbrev pub is_markdown : List ℕ → Bool
is_markdown file = is_md (option_and_then extension_of (file_name_of file))

-- the names under which a justfile is looked for
abbrev pub wanted_names : Config → List (List ℕ)
wanted_names config = if is_empty config.justfile_name then codes "justfile" ∷ codes ".justfile" ∷ [] else config.justfile_name

-- ---- what is found

-- a file, with its folder
abbrev pub as_file : List ℕ → Location
as_file file = record { origin = origin.File file; working_directory = folder_of file }

-- a file, which is tangled where it is markdown
abbrev pub origin_of : List ℕ → Origin
origin_of file = if is_markdown file then origin.Markdown file else origin.File file

abbrev pub as_origin : List ℕ → Location
as_origin file = record { origin = origin_of file; working_directory = folder_of file }

-- what an answer is found as
abbrev pub located_as : {A : Type 0} → (A → Location) → Result A SearchError → Result Location SearchError
located_as f (Ok x) = Ok (f x)
located_as f (Err e) = Err e

-- the justfile in the first folder from one upwards that has one
abbrev pub FindsFrom : Option World → Config → List ℕ → (List ℕ → Location) → Result Location SearchError → Type 0
FindsFrom told config start f r =
    (file : Result (List ℕ) SearchError) × FindsIn told (wanted_names config) (folders_from config.ceiling start) file × (r ≡ located_as f file)

-- a given file with a working folder; the root is no file
abbrev pub with_file : List ℕ → List ℕ → Result Location SearchError
with_file file folder = if bytes_eq file slash then Err (error.JustfileHadNoParent file) else Ok (record { origin = origin_of file; working_directory = folder })

-- standard input, run in that folder
abbrev pub input_at : List ℕ → Location
input_at folder = record { origin = origin.StandardInput; working_directory = folder }

-- a given folder, else the one in which the program was called
abbrev pub given_or_own : Config → Option (List ℕ) → List ℕ
given_or_own config None = config.invocation_directory
given_or_own config (Some folder) = given_path config folder

-- the user's own justfile, run in that folder
abbrev pub own_file : List ℕ → List ℕ → Location
own_file file folder = record { origin = origin.File file; working_directory = folder }

-- The user's own justfile over an environment, run in the root of the project that the program was called in; and the entries that the search for
-- both leaves.
pub data FindsOwnOver (told : Option World) (config : Config) (environ : List (List ℕ × List ℕ)) (gained : List Entry) (r : Result Location SearchError) : Type 0 where
  nowhere : (e : SearchError) → FindsGlobal told environ gained (Err e) → r ≡ Err e → FindsOwnOver told config environ gained r
  at_place : (listings : List Entry) (file : List ℕ) (root : Result (List ℕ) SearchError)
      → FindsGlobal told environ listings (Ok file) → FindsRoot told config.ceiling config.invocation_directory root
      → gained ≡ listings ++ told_entries root → r ≡ located_as (own_file file) root → FindsOwnOver told config environ gained r

-- the same over the environment that the host gives
pub data FindsOwn (told : Option World) (config : Config) (gained : List Entry) (r : Result Location SearchError) : Type 0 where
  no_environ : (e : SearchError) → GivesEnviron told (Err e) → gained ≡ entries_of e → r ≡ Err e → FindsOwn told config gained r
  over_environ : (environ : Environ) → GivesEnviron told (Ok environ) → FindsOwnOver told config environ.pairs gained r → FindsOwn told config gained r

-- Where the justfile of a configuration is, or why it can't be found. The record shows which listings were refused before the user's own justfile
-- was found, or wasn't.
abbrev pub FindsBy : Moment → Moment → Config → SearchConfig → Result Location SearchError → Type 0
FindsBy before after config search.FromInvocationDirectory r = FindsFrom before.world config config.invocation_directory as_origin r
FindsBy before after config (search.FromSearchDirectory folder) r = FindsFrom before.world config (given_path config folder) as_file r
FindsBy before after config search.GlobalJustfile r = Leaves (λ gained. FindsOwn before.world config gained r) before.entries after.entries
FindsBy before after config (search.StandardInput folder) r = r ≡ Ok (input_at (given_or_own config folder))
FindsBy before after config (search.WithJustfile file) r = r ≡ with_file (given_path config file) (folder_of (given_path config file))
FindsBy before after config (search.WithJustfileAndWorkingDirectory file folder) r =
    r ≡ with_file (given_path config file) (given_path config folder)

abbrev pub Finds : Moment → Moment → Config → Result Location SearchError → Type 0
Finds before after config r = FindsBy before after config config.search_config r

-- the justfile in the folders above one, for a recipe or a module that the justfile in it lacks
abbrev pub FindsAbove : Option World → Config → List ℕ → Result Location SearchError → Type 0
FindsAbove told config folder r =
    (file : Result (List ℕ) SearchError) × FindsIn told (wanted_names config) (folders_above config.ceiling folder) file × (r ≡ located_as as_origin file)
