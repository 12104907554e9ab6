-- The texts of errors.
use Rattle.std.specs.Prelude.{ℕ, ◌++◌, List, length, codes}
use Rattle.just_print.specs.SmallTexts.{ticked, plural, list_text}
use Rattle.just_config.specs.declared.config_error.ConfigError.{ConfigError}
use Rattle.just_config.specs.declared.config_error.ConfigError.TheVariants as error

-- which command was used with something that it doesn't take
abbrev pub use_text : List ℕ → List ℕ
use_text subcommand = codes "error: `--" ++ (subcommand ++ codes "` used with unexpected ")

-- a command was used with something that it doesn't take
abbrev pub used_with : List ℕ → List ℕ → List (List ℕ) → List ℕ
used_with subcommand surplus texts = use_text subcommand ++ (surplus ++ (codes ": " ++ list_text (codes "and") texts))

abbrev pub internal_text : List ℕ → List ℕ
internal_text message = codes "error: internal config error, this may indicate a bug in just: " ++ (message ++ codes " consider filing an issue: https://github.com/casey/just/issues/new")

-- what an error is printed as
abbrev pub error_text : ConfigError → List ℕ
error_text (error.OverridePath path) = codes "error: invalid override path " ++ ticked path
error_text (error.Internal message) = internal_text message
error_text error.SearchDirConflict = codes "error: path-prefixed recipes may not be used with `--global-justfile`, `--working-directory`, or `--justfile`"
error_text (error.ModulePath path) = codes "error: invalid module path " ++ ticked path
error_text error.RequestParse = codes "error: failed to parse request: invalid JSON"
error_text (error.SubcommandArguments subcommand arguments) = used_with subcommand (plural (codes "argument") (length arguments)) arguments
error_text (error.SubcommandOverrides subcommand overrides) = used_with subcommand (codes "overrides") overrides
error_text (error.SubcommandOverridesAndArguments subcommand overrides arguments) = used_with subcommand (codes "overrides") overrides ++ (codes "; and arguments: " ++ list_text (codes "and") arguments)
error_text error.NoMemory = codes "error: out of memory"
