-- The configuration that arguments give, or the first refusal.
use Rattle.std.specs.Prelude.{ℕ, Bool, true, false, not, ◌≡◌, ◌||◌, ◌&&◌, if◌then◌else◌, List, [], ◌∷◌, ◌++◌, flat_map, Option, Some, None, codes, bytes_eq, is_some, ◌⊎◌}
use Rattle.std.specs.Option.{option_map}
use Rattle.just_path_text.specs.Environ.{or_else}
use Rattle.just_lang_types.specs.declared.scope.Override.{Override}
use Rattle.just_config_words.specs.declared.arguments.Arguments.{Arguments}
use Rattle.just_config.specs.declared.positional.Positional.{Positional}
use Rattle.just_config.specs.declared.config_error.ConfigError.{ConfigError}
use Rattle.just_config.specs.declared.config_error.ConfigError.TheVariants as error
use Rattle.just_config.specs.declared.search_config.SearchConfig.{SearchConfig}
use Rattle.just_config.specs.declared.search_config.SearchConfig.TheVariants as search
use Rattle.just_config.specs.declared.config.Config.{Config}
use Rattle.just_config.specs.declared.verbosity.Verbosity.{Verbosity}
use Rattle.just_config.specs.declared.verbosity.Verbosity.TheVariants as verbosity
use Rattle.just_config_words.specs.declared.subcommand.Subcommand.{Subcommand}
use Rattle.just_config.specs.ModulePaths.{module_path}
use Rattle.just_config.specs.Commands.{name_of, path_words, is_empty_command, request_words, surplus_arguments, surplus_overrides}
use Rattle.just_config.specs.Positional.{positional_of}
use Rattle.just_config.specs.Requests.{is_one_request}
use Rattle.just_config.specs.Listed.{listed}
use Rattle.just_config.specs.Verbosities.{from_times}

-- ---- overrides

-- names and values by turns, as pairs; a last name without a value gives none
abbrev pub pairs_of : List (List ℕ) → List (List ℕ × List ℕ)
pairs_of [] = []
pairs_of (n ∷ []) = []
pairs_of (n ∷ (v ∷ ts)) = (n, v) ∷ pairs_of ts

abbrev pub is_odd : List (List ℕ) → Bool
is_odd [] = false
is_odd (n ∷ []) = true
is_odd (n ∷ (v ∷ ts)) = is_odd ts

-- the name and the value of each override: those of `--set`, then the positional ones
abbrev pub named_values : Arguments → List (List ℕ × List ℕ)
named_values a = pairs_of a.set ++ (positional_of a.arguments).overrides

-- all but the last name, and the last name
abbrev pub front_of : List (List ℕ) → List (List ℕ)
front_of [] = []
front_of (n ∷ []) = []
front_of (n ∷ (m ∷ ns)) = n ∷ front_of (m ∷ ns)

abbrev pub last_of : List (List ℕ) → Option (List ℕ)
last_of [] = None
last_of (n ∷ []) = Some n
last_of (n ∷ (m ∷ ns)) = last_of (m ∷ ns)

-- the override of a variable in a module
abbrev pub override_at : List (List ℕ) → Option (List ℕ) → List ℕ → Option Override
override_at ms None v = None
override_at ms (Some n) v = Some (record { «module» = record { components = ms }; name = n; value = v })

-- the override of a variable's path: its module, its name and its value
abbrev pub as_override : Option (List (List ℕ)) → List ℕ → Option Override
as_override None v = None
as_override (Some ns) v = override_at (front_of ns) (last_of ns) v

abbrev pub override_of : List ℕ × List ℕ → Option Override
override_of p = as_override (module_path (p.0 ∷ [])) p.1

-- the overrides, where each name is a path
abbrev pub overrides_of : List (List ℕ × List ℕ) → List Override
overrides_of [] = []
overrides_of (p ∷ ps) = elim (override_of p) [ None ↦ [] | Some o ↦ o ∷ [] ] ++ overrides_of ps

-- the first name that is no path
abbrev pub ill_override : List (List ℕ × List ℕ) → Option (List ℕ)
ill_override [] = None
ill_override (p ∷ ps) = if is_some (override_of p) then ill_override ps else Some p.0

-- ---- where the justfile is

-- the given justfile, and the working folder: `-` is standard input
abbrev pub by_justfile : Option (List ℕ) → Option (List ℕ) → SearchConfig
by_justfile None folder = search.FromInvocationDirectory
by_justfile (Some file) folder =
    if bytes_eq file (codes "-") then search.StandardInput folder else elim folder [ None ↦ search.WithJustfile file | Some d ↦ search.WithJustfileAndWorkingDirectory file d ]

abbrev pub without_prefix : Arguments → SearchConfig
without_prefix a = if a.global_justfile then search.GlobalJustfile else by_justfile a.justfile a.working_directory

-- the search folder where there is one, else what the options say
abbrev pub search_config_of : Arguments → Option (List ℕ) → SearchConfig
search_config_of a None = without_prefix a
search_config_of a (Some d) = search.FromSearchDirectory d

-- whether the options say where the justfile is, or the working folder
abbrev pub has_place : Arguments → Bool
has_place a = a.global_justfile || is_some a.justfile || is_some a.working_directory

-- ---- how much is printed

abbrev pub verbosity_of : Arguments → Verbosity
verbosity_of a = if a.quiet then verbosity.Quiet else from_times a.verbose

-- ---- the refusals, in their order

-- texts, each with a blank in front
abbrev pub with_blanks : List (List ℕ) → List ℕ
with_blanks ts = flat_map (λ t. 32 ∷ t) ts

-- words with a blank between two of them
abbrev pub spaced : List (List ℕ) → List ℕ
spaced [] = []
spaced (t ∷ ts) = t ++ with_blanks ts

-- arguments that can't come from words
abbrev pub internal : Arguments → Option (List ℕ)
internal a =
    if is_some a.working_directory && not (is_some a.justfile) then Some (codes "a working directory without a justfile")
    else (if is_odd a.set then Some (codes "an override without a value")
    else elim a.subcommand [ None ↦ None | Some s ↦ if is_empty_command s then Some (codes "an empty command") else None ])

abbrev pub ill_path : Option Subcommand → Option (List ℕ)
ill_path None = None
ill_path (Some s) = elim (path_words s) [ None ↦ None | Some ws ↦ if is_some (module_path ws) then None else Some (spaced ws) ]

-- what a command doesn't take: arguments, overrides, or both
abbrev pub surplus : List ℕ → List (List ℕ) → List Override → Option ConfigError
surplus name [] [] = None
surplus name (t ∷ ts) [] = Some (error.SubcommandArguments name (t ∷ ts))
surplus name [] (o ∷ os) = Some (error.SubcommandOverrides name (listed (o ∷ os)))
surplus name (t ∷ ts) (o ∷ os) = Some (error.SubcommandOverridesAndArguments name (listed (o ∷ os)) (t ∷ ts))

abbrev pub unexpected : Option Subcommand → List (List ℕ) → List Override → Option ConfigError
unexpected None ts os = None
unexpected (Some s) ts os = surplus (name_of s) (surplus_arguments s ts) (surplus_overrides s os)

abbrev pub is_request_refused : Option Subcommand → Bool
is_request_refused None = false
is_request_refused (Some s) = elim (request_words s) [ None ↦ false | Some ws ↦ not (is_one_request ws) ]

-- what is wrong with a command, these positional words and overrides
abbrev pub command_refusal : Option Subcommand → List (List ℕ) → List Override → Option ConfigError
command_refusal s ts os =
    or_else (option_map error.ModulePath (ill_path s))
    (or_else (if is_request_refused s then Some error.RequestParse else None)
    (unexpected s ts os))

-- what is wrong behind the overrides' names, with these positional words and overrides
abbrev pub later_refusal : Arguments → Positional → List Override → Option ConfigError
later_refusal a p os =
    or_else (option_map error.Internal (internal a))
    (or_else (if is_some p.search_directory && has_place a then Some error.SearchDirConflict else None)
    (command_refusal a.subcommand p.arguments os))

-- the first name that is no path, else what is wrong behind
abbrev pub refusal : Arguments → Option ConfigError
refusal a = or_else (option_map error.OverridePath (ill_override (named_values a))) (later_refusal a (positional_of a.arguments) (overrides_of (named_values a)))

-- ---- the configuration

-- the fields of arguments, with these positional words, and the fields beside them
abbrev pub config_with : Arguments → List (List ℕ) → SearchConfig → List Override → List ℕ → Config
config_with a words found overrides folder = record {
  allow_missing = a.allow_missing;
  check = a.check;
  clear_shell_args = a.clear_shell_args;
  default_list = a.default_list;
  dry_run = a.dry_run;
  explain = a.explain;
  global_justfile = a.global_justfile;
  list_submodules = a.list_submodules;
  no_aliases = a.no_aliases;
  no_cache = a.no_cache;
  no_deps = a.no_deps;
  no_dotenv = a.no_dotenv;
  one = a.one;
  quiet = a.quiet;
  shell_command = a.shell_command;
  unsorted = a.unsorted;
  unstable = a.unstable;
  verbose = a.verbose;
  yes = a.yes;
  complete_aliases = a.complete_aliases;
  highlight = a.highlight;
  no_highlight = a.no_highlight;
  alias_style = a.alias_style;
  ceiling = a.ceiling;
  chooser = a.chooser;
  dump_format = a.dump_format;
  evaluate_format = a.evaluate_format;
  indentation = a.indentation;
  jobs = a.jobs;
  justfile = a.justfile;
  list_heading = a.list_heading;
  list_prefix = a.list_prefix;
  shell = a.shell;
  tempdir = a.tempdir;
  working_directory = a.working_directory;
  color = a.color;
  command_color = a.command_color;
  cygpath = a.cygpath;
  dotenv_command = a.dotenv_command;
  dotenv_filename = a.dotenv_filename;
  dotenv_path = a.dotenv_path;
  group = a.group;
  justfile_name = a.justfile_name;
  shell_arg = a.shell_arg;
  set = a.set;
  arguments = words;
  subcommand = a.subcommand;
  search_config = found;
  overrides = overrides;
  verbosity = verbosity_of a;
  invocation_directory = folder;
}

abbrev pub config_of : Arguments → List ℕ → Config
config_of a folder =
    config_with a (positional_of a.arguments).arguments (search_config_of a (positional_of a.arguments).search_directory) (overrides_of (named_values a)) folder

-- what an error says of arguments; want of memory says nothing
abbrev pub IsRefusedBy : Arguments → ConfigError → Type 0
IsRefusedBy a e = (e ≡ error.NoMemory) ⊎ (refusal a ≡ Some e)
