-- What words ask for: the arguments that they mean with the variables, the configuration that these give, and the justfile that it means.
use Rattle.std.specs.Prelude.{ℕ, ◌≡◌, ◌≢◌, ◌++◌, List, [], map, Option, Some, None, Result, Ok, Err}
use Rattle.just_path_text.specs.declared.environ.Environ.{Environ}
use Rattle.just_host_record.specs.declared.entry.Entry.{Entry}
use Rattle.just_host_record.specs.World.{World, Moment}
use Rattle.just_config_words.specs.declared.arguments.Arguments.{Arguments}
use Rattle.just_config_words.specs.declared.usage.Usage.{Usage}
use Rattle.just_config_words.specs.declared.words.Read.{Read}
use Rattle.just_config_words.specs.Words.{Means}
use Rattle.just_config.specs.declared.config.Config.{Config}
use Rattle.just_config.specs.declared.config_error.ConfigError.{ConfigError}
use Rattle.just_config.specs.Config.{refusal, config_of}
use Rattle.just_env.specs.declared.search_error.SearchError.{SearchError}
use Rattle.just_env.specs.declared.search_error.SearchError.TheVariants as search
use Rattle.just_env.specs.Answers.{entries_of}
use Rattle.just_search.specs.declared.location.Location.{Location}
use Rattle.just_search.specs.Finding.{Finds}
use Rattle.just_exec.specs.Refusals.{error_of_search}
use Rattle.just_exec.specs.declared.error.Error.{Error}
use Rattle.just_exec.specs.declared.error.Error.TheVariants as error
use Rattle.just_cli_plan.specs.declared.wanted.Wanted.{Wanted}
use Rattle.just_search.specs.declared.search_result.Search.{Search}
use Rattle.just_search.specs.Files.{parent_of, Materializes}
use Rattle.just_cli.specs.Acts.{Act, Step, Begun}
use Rattle.just_cli_children.specs.Configs.{cache_beside, wanted_of}

-- ---- what is known behind each step; the environment goes along, since values ask it too

-- the words, and the environment whose variables fill in what they leave out
pub record WordsRequest : Type 0 where
  pub words : List (List ℕ)
  pub environ : Environ

-- what they are read as: arguments, or a question
pub record ReadRequest : Type 0 where
  pub meaning : Read
  pub environ : Environ

-- the arguments that they mean
pub record ArgumentsRequest : Type 0 where
  pub arguments : Arguments
  pub environ : Environ

-- and the folder where they were given
pub record FolderRequest : Type 0 where
  pub arguments : Arguments
  pub environ : Environ
  pub folder : List ℕ

-- the configuration that they give
pub record ConfigRequest : Type 0 where
  pub config : Config
  pub environ : Environ

-- and the place of the justfile
pub record LocatedRequest : Type 0 where
  pub config : Config
  pub environ : Environ
  pub location : Location

-- the justfile, and what is asked of it
pub record JustfileRequest : Type 0 where
  pub wanted : Wanted
  pub environ : Environ
  pub justfile : List ℕ

-- ---- the steps

-- the environment is the one that is given so
abbrev pub FindsEnviron : (Result Environ Error → Type 0) → List (List ℕ) → Result WordsRequest Error → Type 0
FindsEnviron environ words (Ok q) = (q.words ≡ words) × environ (Ok q.environ)
FindsEnviron environ words (Err e) = environ (Err e)

-- the words mean that, or are faulty
abbrev pub ReadsWords : WordsRequest → Result ReadRequest Error → Type 0
ReadsWords q (Ok m) = Means q.words q.environ.pairs (Ok m.meaning) × (m.environ ≡ q.environ)
ReadsWords q (Err e) = (u : Usage) × Means q.words q.environ.pairs (Err u) × (e ≡ error.Usage u)

-- the arguments are given in the current folder, which is given so
abbrev pub FindsFolder : (Result (List ℕ) Error → Type 0) → ArgumentsRequest → Result FolderRequest Error → Type 0
FindsFolder current a (Ok q) = (q.arguments ≡ a.arguments) × (q.environ ≡ a.environ) × current (Ok q.folder)
FindsFolder current a (Err e) = current (Err e)

-- the arguments give a configuration, or are refused
abbrev pub Configures : FolderRequest → Result ConfigRequest Error → Type 0
Configures q (Ok c) = (refusal q.arguments ≡ None) × (c ≡ record { config = config_of q.arguments q.folder; environ = q.environ })
Configures q (Err e) = (f : ConfigError) × (refusal q.arguments ≡ Some f) × (e ≡ error.Config f)

-- a moment at which that world is told, with these entries in the record
abbrev pub told_with : Option World → List Entry → Moment
told_with told entries = record { entries = entries; world = told }

-- The place where the justfile of a configuration is, or why there is none. Behind the entries of the listings that were refused on the way the record has
-- that of the call for which the search is refused.
abbrev pub FindsLocation : Option World → List Entry → Config → Result Location Error → Type 0
FindsLocation told listings config (Ok l) = Finds (told_with told []) (told_with told listings) config (Ok l)
FindsLocation told listings config (Err e) =
    (f : SearchError) × Finds (told_with told []) (told_with told (listings ++ entries_of f)) config (Err f) × (e ≡ error_of_search f)

-- the justfile is in the place that is found so
abbrev pub FindsJustfile : (Config → Result Location Error → Type 0) → ConfigRequest → Result LocatedRequest Error → Type 0
FindsJustfile finds c (Ok q) = (q.config ≡ c.config) × (q.environ ≡ c.environ) × finds c.config (Ok q.location)
FindsJustfile finds c (Err e) = finds c.config (Err e)

-- The justfile in a place, as the file that is loaded: the file itself, or one in a temporary folder that is made for its text; and what is asked of it.
-- Or why there is none.
abbrev pub TakesFile : Step LocatedRequest JustfileRequest
TakesFile told acts after q (Ok j) =
    (folders : List (List ℕ)) × (s : Search) × (acts ≡ map Act.made folders) × Materializes told after (parent_of q.config) q.location folders (Ok s)
    × (j.justfile ≡ s.justfile) × (j.wanted ≡ wanted_of q.config s.working_directory (cache_beside s.justfile)) × (j.environ ≡ q.environ)
TakesFile told acts after q (Err e) =
    (folders : List (List ℕ)) × (f : SearchError) × (acts ≡ map Act.made folders) × Materializes told after (parent_of q.config) q.location folders (Err f)
    × (f ≢ search.NoMemory) × (e ≡ error_of_search f)

-- what was begun of that in a place: at most the folder is made for its text
abbrev pub BeginsIn : Config → Location → Option World → List Act → Option World → Type 0
BeginsIn config location told acts after =
    (folders : List (List ℕ)) × (r : Result Search SearchError) × (acts ≡ map Act.made folders) × Materializes told after (parent_of config) location folders r

abbrev pub BeginsFile : Begun LocatedRequest
BeginsFile told acts after q = BeginsIn q.config q.location told acts after
