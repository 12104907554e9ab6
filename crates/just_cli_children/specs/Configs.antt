-- What a configuration asks of a justfile; and the configuration of a run in the place of a command.
use Rattle.std.specs.Prelude.{ℕ, Bool, true, false, not, ◌||◌, if◌then◌else◌, nat_le, List, [], ◌∷◌, Option, Some, None, option_map}
use Rattle.just_config_words.specs.declared.subcommand.Subcommand.{Subcommand}
use Rattle.just_config_words.specs.declared.subcommand.Subcommand.TheVariants as command
use Rattle.just_config.specs.declared.config.Config.{Config}
use Rattle.just_config.specs.Verbosities.{level}
use Rattle.just_search.specs.Finding.{folder_of, given_path}
use Rattle.just_env.specs.declared.ask.DotenvAsk.{DotenvAsk}
use Rattle.just_exec_work.specs.declared.run_flags.RunFlags.{RunFlags}
use Rattle.just_cache.specs.Places.{cache_folder}
use Rattle.just_cli_plan.specs.declared.wanted.Wanted.{Wanted}

-- ---- what is asked for

-- whether there is a text
abbrev pub is_any : List (List ℕ) → Bool
is_any [] = false
is_any (t ∷ ts) = true

-- the arguments of the shell, where some are given or all are cleared
abbrev pub shell_args_of : Config → Option (List (List ℕ))
shell_args_of c = if c.clear_shell_args || is_any c.shell_arg then Some c.shell_arg else None

-- whether a command prints the paths of recipes
abbrev pub is_summary : Option Subcommand → Bool
is_summary None = false
is_summary (Some (command.Choose ws)) = false
is_summary (Some (command.Clean ws)) = false
is_summary (Some (command.Command ws)) = false
is_summary (Some (command.Dump ws)) = false
is_summary (Some (command.Edit ws)) = false
is_summary (Some (command.Evaluate ws)) = false
is_summary (Some (command.Fmt ws)) = false
is_summary (Some (command.Groups ws)) = false
is_summary (Some (command.Init ws)) = false
is_summary (Some (command.List ws)) = false
is_summary (Some (command.Request ws)) = false
is_summary (Some (command.Show ws)) = false
is_summary (Some (command.Summary ws)) = true
is_summary (Some (command.Usage ws)) = false
is_summary (Some (command.Variables ws)) = false
is_summary (Some (command.Vectors ws)) = false

-- whether unstable features are allowed: by the words, or for the paths of recipes alone
abbrev pub allows_unstable : Config → Bool
allows_unstable c = c.unstable || is_summary c.subcommand

-- how recipes are run, in that working folder. The folder of the words for temporary ones is under that of the call, and clean
abbrev pub flags_of : Config → List ℕ → RunFlags
flags_of c folder =
    record {
      shell = c.shell;
      shell_args = shell_args_of c;
      quiet = nat_le (level c.verbosity) 0;
      loquacious = nat_le 2 (level c.verbosity);
      dry_run = c.dry_run;
      no_cache = c.no_cache;
      yes = c.yes;
      explain = c.explain;
      tempdir = option_map (given_path c) c.tempdir;
      folder = folder;
    }

-- which dotenv files are asked for
abbrev pub dotenv_of : Config → DotenvAsk
dotenv_of c = record { commands = c.dotenv_command; filenames = c.dotenv_filename; paths = c.dotenv_path; load = not c.no_dotenv; dry_run = c.dry_run }

-- the folder of the cache of a justfile's recipes: beside the file
abbrev pub cache_beside : List ℕ → List ℕ
cache_beside file = cache_folder (folder_of file)

-- what is asked of a justfile that is run in the first of these folders, and whose cache is the other
abbrev pub wanted_of : Config → List ℕ → List ℕ → Wanted
wanted_of c folder cache =
    record {
      words = c.arguments;
      overrides = c.overrides;
      one = c.one;
      no_deps = c.no_deps;
      dotenv = dotenv_of c;
      unstable = allows_unstable c;
      jobs = c.jobs;
      cache_folder = cache;
      flags = flags_of c folder;
    }

-- ---- a run in the place of a command

-- the same, whose command is gone, and whose words are these
abbrev pub with_words : Config → List (List ℕ) → Config
with_words c words = record {
  allow_missing = c.allow_missing;
  check = c.check;
  clear_shell_args = c.clear_shell_args;
  default_list = c.default_list;
  dry_run = c.dry_run;
  explain = c.explain;
  global_justfile = c.global_justfile;
  list_submodules = c.list_submodules;
  no_aliases = c.no_aliases;
  no_cache = c.no_cache;
  no_deps = c.no_deps;
  no_dotenv = c.no_dotenv;
  one = c.one;
  quiet = c.quiet;
  shell_command = c.shell_command;
  unsorted = c.unsorted;
  unstable = c.unstable;
  verbose = c.verbose;
  yes = c.yes;
  complete_aliases = c.complete_aliases;
  highlight = c.highlight;
  no_highlight = c.no_highlight;
  alias_style = c.alias_style;
  ceiling = c.ceiling;
  chooser = c.chooser;
  dump_format = c.dump_format;
  evaluate_format = c.evaluate_format;
  indentation = c.indentation;
  jobs = c.jobs;
  justfile = c.justfile;
  list_heading = c.list_heading;
  list_prefix = c.list_prefix;
  shell = c.shell;
  tempdir = c.tempdir;
  working_directory = c.working_directory;
  color = c.color;
  command_color = c.command_color;
  cygpath = c.cygpath;
  dotenv_command = c.dotenv_command;
  dotenv_filename = c.dotenv_filename;
  dotenv_path = c.dotenv_path;
  group = c.group;
  justfile_name = c.justfile_name;
  shell_arg = c.shell_arg;
  set = c.set;
  arguments = words;
  subcommand = None;
  search_config = c.search_config;
  overrides = c.overrides;
  verbosity = c.verbosity;
  invocation_directory = c.invocation_directory;
}

-- what is asked of a justfile, by these words
abbrev pub wanted_with : Wanted → List (List ℕ) → Wanted
wanted_with w words = record {
  words = words;
  overrides = w.overrides;
  one = w.one;
  no_deps = w.no_deps;
  dotenv = w.dotenv;
  unstable = w.unstable;
  jobs = w.jobs;
  cache_folder = w.cache_folder;
  flags = w.flags;
}
