-- The arguments that the options and the positional words give.
use Rattle.std.specs.Prelude.{ℕ, not, ◌≡◌, ◌&&◌, ◌==◌, if◌then◌else◌, min, List, [], ◌∷◌, flat_map, Option, Some, None, codes, bytes_eq}
use Rattle.std.specs.Option.{option_map}
use Rattle.std.specs.Int.NonZero.{non_zero_u64_get}
use Rattle.just_config_words.specs.declared.arguments.Arguments.{Arguments}
use Rattle.just_config_words.specs.declared.occurrence.Occurrence.{Occurrence}
use Rattle.just_config_words.specs.declared.subcommand.Subcommand.{Subcommand}
use Rattle.just_config_words.specs.declared.subcommand.Subcommand.TheVariants as command
use Rattle.just_config_words.specs.Cuts.{parts}
use Rattle.just_lang_read.specs.Decimal.{decimal}
use Rattle.just_config_words.specs.Occurrences.{is_given, times, value_in, values_in, behind}
use Rattle.just_config_words.specs.Rules.{gives_command}

-- how often `--verbose` is given, up to 255; or the number that its variable gives
abbrev pub number_or_zero : Option ℕ → ℕ
number_or_zero None = 0
number_or_zero (Some n) = n

abbrev pub verbosity : List Occurrence → ℕ
verbosity filled = elim (value_in (codes "verbose") filled) [ None ↦ min 255 (times (codes "verbose") filled) | Some t ↦ min 255 (number_or_zero (decimal t)) ]

-- the number of a text, where it isn't 0
abbrev pub positive : Option ℕ → Option ℕ
positive None = None
positive (Some n) = if n == 0 then None else Some n

abbrev pub jobs_in : Option (List ℕ) → Option ℕ
jobs_in None = None
jobs_in (Some t) = positive (decimal t)

abbrev pub comma : ℕ
comma = 44

-- the command of that name, with its words
abbrev pub subcommand_named : List ℕ → List (List ℕ) → Option Subcommand
subcommand_named name ws =
    if bytes_eq name (codes "choose") then Some (command.Choose ws)
    else (if bytes_eq name (codes "clean") then Some (command.Clean ws)
    else (if bytes_eq name (codes "command") then Some (command.Command ws)
    else (if bytes_eq name (codes "dump") then Some (command.Dump ws)
    else (if bytes_eq name (codes "edit") then Some (command.Edit ws)
    else (if bytes_eq name (codes "evaluate") then Some (command.Evaluate ws)
    else (if bytes_eq name (codes "fmt") then Some (command.Fmt ws)
    else (if bytes_eq name (codes "groups") then Some (command.Groups ws)
    else (if bytes_eq name (codes "init") then Some (command.Init ws)
    else (if bytes_eq name (codes "list") then Some (command.List ws)
    else (if bytes_eq name (codes "request") then Some (command.Request ws)
    else (if bytes_eq name (codes "show") then Some (command.Show ws)
    else (if bytes_eq name (codes "summary") then Some (command.Summary ws)
    else (if bytes_eq name (codes "usage") then Some (command.Usage ws)
    else (if bytes_eq name (codes "variables") then Some (command.Variables ws)
    else (if bytes_eq name (codes "vectors") then Some (command.Vectors ws)
    else None)))))))))))))))

-- the command that is given, with its words
abbrev pub subcommand_in : List Occurrence → Option Subcommand
subcommand_in [] = None
subcommand_in (o ∷ os) = if gives_command o then subcommand_named o.option.name o.values else subcommand_in os

-- the arguments of the options that are given or filled in, and of the positional words: a field for each option
pub record AreArguments (filled : List Occurrence) (positional : List (List ℕ)) (a : Arguments) : Type 0 where
  pub allow_missing : a.allow_missing ≡ is_given (codes "allow-missing") filled
  pub check : a.check ≡ is_given (codes "check") filled
  pub clear_shell_args : a.clear_shell_args ≡ (is_given (codes "clear-shell-args") filled && not (is_given (codes "shell-arg") (behind (codes "clear-shell-args") filled)))
  pub default_list : a.default_list ≡ is_given (codes "default-list") filled
  pub dry_run : a.dry_run ≡ is_given (codes "dry-run") filled
  pub explain : a.explain ≡ is_given (codes "explain") filled
  pub global_justfile : a.global_justfile ≡ is_given (codes "global-justfile") filled
  pub list_submodules : a.list_submodules ≡ is_given (codes "list-submodules") filled
  pub no_aliases : a.no_aliases ≡ is_given (codes "no-aliases") filled
  pub no_cache : a.no_cache ≡ is_given (codes "no-cache") filled
  pub no_deps : a.no_deps ≡ is_given (codes "no-deps") filled
  pub no_dotenv : a.no_dotenv ≡ is_given (codes "no-dotenv") filled
  pub one : a.one ≡ is_given (codes "one") filled
  pub quiet : a.quiet ≡ is_given (codes "quiet") filled
  pub shell_command : a.shell_command ≡ is_given (codes "shell-command") filled
  pub unsorted : a.unsorted ≡ is_given (codes "unsorted") filled
  pub unstable : a.unstable ≡ is_given (codes "unstable") filled
  pub verbose : a.verbose ≡ verbosity filled
  pub yes : a.yes ≡ is_given (codes "yes") filled
  pub complete_aliases : a.complete_aliases ≡ is_given (codes "complete-aliases") filled
  pub highlight : a.highlight ≡ is_given (codes "highlight") filled
  pub no_highlight : a.no_highlight ≡ is_given (codes "no-highlight") filled
  pub alias_style : a.alias_style ≡ value_in (codes "alias-style") filled
  pub ceiling : a.ceiling ≡ value_in (codes "ceiling") filled
  pub chooser : a.chooser ≡ value_in (codes "chooser") filled
  pub dump_format : a.dump_format ≡ value_in (codes "dump-format") filled
  pub evaluate_format : a.evaluate_format ≡ value_in (codes "evaluate-format") filled
  pub indentation : a.indentation ≡ value_in (codes "indentation") filled
  pub jobs : option_map non_zero_u64_get a.jobs ≡ jobs_in (value_in (codes "jobs") filled)
  pub justfile : a.justfile ≡ value_in (codes "justfile") filled
  pub list_heading : a.list_heading ≡ value_in (codes "list-heading") filled
  pub list_prefix : a.list_prefix ≡ value_in (codes "list-prefix") filled
  pub shell : a.shell ≡ value_in (codes "shell") filled
  pub tempdir : a.tempdir ≡ value_in (codes "tempdir") filled
  pub working_directory : a.working_directory ≡ value_in (codes "working-directory") filled
  pub color : a.color ≡ value_in (codes "color") filled
  pub command_color : a.command_color ≡ value_in (codes "command-color") filled
  pub cygpath : a.cygpath ≡ value_in (codes "cygpath") filled
  pub dotenv_command : a.dotenv_command ≡ values_in (codes "dotenv-command") filled
  pub dotenv_filename : a.dotenv_filename ≡ values_in (codes "dotenv-filename") filled
  pub dotenv_path : a.dotenv_path ≡ values_in (codes "dotenv-path") filled
  pub group : a.group ≡ values_in (codes "group") filled
  pub justfile_name : a.justfile_name ≡ flat_map (parts comma) (values_in (codes "justfile-name") filled)
  pub shell_arg : a.shell_arg ≡ values_in (codes "shell-arg") (behind (codes "clear-shell-args") filled)
  pub set : a.set ≡ values_in (codes "set") filled
  pub arguments : a.arguments ≡ positional
  pub subcommand : a.subcommand ≡ subcommand_in filled
