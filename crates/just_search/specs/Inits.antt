-- The justfile that is to be written where there is none.
use Rattle.std.specs.Prelude.{ℕ, ◌≡◌, List, [], ◌∷◌, Option, None, Result, Ok, Err, if◌then◌else◌, codes, bytes_eq}
use Rattle.just_path.specs.Comps.{slash}
use Rattle.just_path.specs.Path.{pushed}
use Rattle.just_host_record.specs.World.{World}
use Rattle.just_config.specs.declared.config.Config.{Config}
use Rattle.just_config.specs.declared.search_config.SearchConfig.{SearchConfig}
use Rattle.just_config.specs.declared.search_config.SearchConfig.TheVariants as search
use Rattle.just_env.specs.declared.search_error.SearchError.{SearchError}
use Rattle.just_env.specs.declared.search_error.SearchError.TheVariants as error
use Rattle.just_search.specs.declared.search_result.Search.{Search}
use Rattle.just_search.specs.Finding.{given_path, folder_of}
use Rattle.just_search.specs.Root.{FindsRoot}

-- the name under which it is written: the first that is given, else `justfile`
abbrev pub first_name : List (List ℕ) → List ℕ
first_name [] = codes "justfile"
first_name (name ∷ names) = name

-- a file with its working folder
abbrev pub search_at : List ℕ → List ℕ → Search
search_at file folder = record { justfile = file; tempdir = None; working_directory = folder }

-- in a folder, which is its working folder
abbrev pub in_root : Config → Result (List ℕ) SearchError → Result Search SearchError
in_root config (Ok root) = Ok (search_at (pushed root (first_name config.justfile_name)) root)
in_root config (Err e) = Err e

-- in the root of the project that a folder is in
abbrev pub InitsIn : Option World → Config → List ℕ → Result Search SearchError → Type 0
InitsIn told config start r = (root : Result (List ℕ) SearchError) × FindsRoot told config.ceiling start root × (r ≡ in_root config root)

-- a given file; the root is no file
abbrev pub init_given : List ℕ → Result Search SearchError
init_given file = if bytes_eq file slash then Err (error.JustfileHadNoParent file) else Ok (search_at file (folder_of file))

abbrev pub InitsBy : Option World → Config → SearchConfig → Result Search SearchError → Type 0
InitsBy told config search.FromInvocationDirectory r = InitsIn told config config.invocation_directory r
InitsBy told config (search.FromSearchDirectory folder) r = InitsIn told config (given_path config folder) r
InitsBy told config search.GlobalJustfile r = r ≡ Err error.GlobalJustfileInit
InitsBy told config (search.StandardInput folder) r = r ≡ Err error.InitWithJustfileFromStandardInput
InitsBy told config (search.WithJustfile file) r = r ≡ init_given (given_path config file)
InitsBy told config (search.WithJustfileAndWorkingDirectory file folder) r = r ≡ Ok (search_at (given_path config file) (given_path config folder))

-- where the justfile of a configuration is to be written, or why it can't be
abbrev pub Inits : Option World → Config → Result Search SearchError → Type 0
Inits told config r = InitsBy told config config.search_config r
