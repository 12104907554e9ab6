-- The texts of errors.
use Rattle.std.specs.Prelude.{ℕ, ◌++◌, List, [], ◌∷◌, codes, decimal}
use Rattle.std.specs.List.{flat_map}
use Rattle.std.specs.Fmt.{signed_decimal}
use Rattle.just_host_record.specs.Signals.{name_of}
use Rattle.just_host_record.specs.declared.entry.HostFault.{HostFault}
use Rattle.just_host_record.specs.declared.entry.Status.{Status}
use Rattle.just_host_record.specs.declared.entry.Status.TheVariants as status
use Rattle.just_lang_types.specs.declared.recipe.Modulepath.{Modulepath}
use Rattle.just_lang_types.specs.declared.recipe.Parameter.{Parameter}
use Rattle.just_print.specs.SmallTexts.{ticked, list_text}
use Rattle.just_print.specs.Usages as usages
use Rattle.just_config.specs.Texts.{error_text as config_text}
use Rattle.just_lang_types.specs.Features.{feature_text}
use Rattle.just_env.specs.declared.search_error.SearchError.{SearchError}
use Rattle.just_env.specs.declared.search_error.SearchError.TheVariants as search
use Rattle.just_env.specs.declared.env_error.OutputError.{OutputError}
use Rattle.just_env.specs.declared.env_error.OutputError.TheVariants as output
use Rattle.just_exec.specs.declared.error.Error.{Error}
use Rattle.just_exec.specs.declared.error.Error.TheVariants as error
use Rattle.just_exec.specs.Parts.{fault_text, kind_text, usage_text, counted, place_text, naming, of_recipe, of_part, of_switch, circular_text, absent_text, values_text, pattern_text, default_text, overrides_text, shell_text, folder_text, script_text, shebang_text, failed_text, terminated_text, takes_text}

-- a recipe with its short usage
abbrev pub count_text : List ℕ → Modulepath → List Parameter → ℕ → List ℕ
count_text recipe path ps found =
    of_recipe recipe (codes " got ") ++ (counted found (codes "positional argument") ++ (codes " but " ++ (takes_text ps found ++ (codes "\n" ++ usages.usage_text path ps))))

abbrev pub unstable_text : List ℕ → List ℕ
unstable_text feature =
    codes "error: " ++ (feature ++ codes ", invoke `just` with `--unstable`, set the `JUST_UNSTABLE` environment variable, or add `set unstable` to your `justfile` to enable unstable features")

-- why no justfile is found
abbrev pub search_text : SearchError → List ℕ
search_text (search.FilesystemIo path io) = naming (codes "I/O error at ") path (codes ": " ++ fault_text io)
search_text search.GlobalJustfileInit = codes "error: cannot initialize global justfile"
search_text search.GlobalJustfileNotFound = codes "error: global justfile not found"
search_text search.InitWithJustfileFromStandardInput = codes "error: cannot use justfile from standard input with `--init`"
search_text (search.JustfileHadNoParent path) = codes "error: justfile path had no parent: " ++ path
search_text (search.MultipleCandidates folder candidates) = naming (codes "multiple candidate justfiles found in ") folder (codes ": " ++ list_text (codes "and") candidates)
search_text search.NotFound = codes "error: no justfile found"
search_text (search.StdinIo io) = codes "error: error reading from standard input: " ++ fault_text io
search_text (search.TempdirIo io) = codes "error: I/O error creating temporary directory: " ++ fault_text io
search_text (search.Load path io) = naming (codes "failed to read justfile at ") path (codes ": " ++ fault_text io)
search_text (search.Lang l) = codes "error: the justfile is refused"
search_text search.NoMemory = codes "error: out of memory"

-- a dotenv file that can't be read
abbrev pub dotenv_text : List ℕ → ℕ → List ℕ
dotenv_text path line = naming (codes "failed to load environment file from ") path (codes ": line " ++ decimal line)

-- why the output of a command isn't read
abbrev pub output_text : OutputError → List ℕ
output_text (output.Code code) = codes "process exited with status code " ++ signed_decimal code
output_text (output.Io io) = codes "error executing process: " ++ fault_text io
output_text (output.Signal number) = codes "process terminated by signal " ++ signed_decimal number
output_text output.Unknown = codes "process experienced an unknown failure"
output_text output.Utf8 = codes "could not convert process stdout to UTF-8"

-- a command that gives no dotenv pairs
abbrev pub command_text : List ℕ → OutputError → List ℕ
command_text command e = naming (codes "dotenv command ") command (codes " failed: ") ++ output_text e

-- how a child ended
abbrev pub status_text : Status → List ℕ
status_text (status.Code code) = codes "exit status: " ++ signed_decimal code
status_text (status.Signal number) = codes "signal: " ++ signed_decimal number
status_text status.Unknown = codes "unknown status"

-- a chooser that couldn't be started: the shell, its arguments with a blank between two of them, and the chooser
abbrev pub chooser_text : List ℕ → List ℕ → List ℕ → HostFault → List ℕ
chooser_text shell arguments chooser io =
    naming (codes "chooser ") (shell ++ (codes " " ++ (arguments ++ (codes " " ++ chooser)))) (codes " invocation failed: " ++ fault_text io)

-- texts in backquotes, each behind a blank
abbrev pub ticked_behind : List (List ℕ) → List ℕ
ticked_behind texts = flat_map (λ t. 32 ∷ ticked t) texts

-- a program and its arguments, each in backquotes
abbrev pub words_ticked : List ℕ → List (List ℕ) → List ℕ
words_ticked binary arguments = ticked binary ++ ticked_behind arguments

-- what an error is printed as
abbrev pub error_text : Error → List ℕ
error_text (error.Usage u) = naming (codes "usage: " ++ (usage_text u.kind ++ codes " ")) u.word []
error_text (error.Config e) = config_text e
error_text (error.CurrentDir io) = codes "error: failed to get current directory: " ++ fault_text io
error_text (error.Search e) = search_text e
error_text (error.Load path io) = naming (codes "failed to read justfile at ") path (codes ": " ++ fault_text io)
error_text (error.FilesystemIo path io) = naming (codes "I/O error at ") path (codes ": " ++ fault_text io)
error_text error.MissingImportFile = codes "error: could not find source file for import"
error_text (error.CircularImport current import) = circular_text current import
error_text (error.MissingModuleFile m) = naming (codes "could not find source file for module ") m []
error_text (error.AmbiguousModuleFile m found) = naming (codes "found multiple source files for module ") m (codes ": " ++ list_text (codes "and") found)
error_text error.Homedir = codes "error: failed to get homedir"
error_text (error.Compile e) = codes "error: " ++ (kind_text e.kind ++ (codes " at " ++ place_text e.path e.line e.column))
error_text (error.Const path line column) = codes "error: not constant at " ++ place_text path line column
error_text (error.UnstableFeature feature) = unstable_text (feature_text feature)
error_text error.DotenvRequired = codes "error: dotenv file not found"
error_text (error.Dotenv path line) = dotenv_text path line
error_text error.DotenvArgumentsRequireLists = codes "error: multiple `--dotenv-filename` or `--dotenv-path` arguments require `set lists`"
error_text (error.DotenvCommand command e) = command_text command e
error_text (error.UnknownOverrides vs) = overrides_text vs
error_text (error.FunctionCall name) = naming (codes "call to function `env` failed: environment variable ") name (codes " not present")
error_text error.NoRecipes = codes "error: justfile contains no recipes"
error_text error.NoDefaultRecipe = codes "error: justfile contains no default recipe"
error_text (error.DefaultRecipeRequiresArguments recipe number) = default_text recipe number
error_text (error.UnknownRecipe recipe) = naming (codes "justfile does not contain recipe ") recipe []
error_text (error.UnknownSubmodule path) = naming (codes "justfile does not contain submodule ") path []
error_text (error.ModuleAbsent m) = naming (codes "optional module ") m (codes " is absent")
error_text (error.RecipeDisabled recipe modules) = absent_text (codes "recipe ") recipe modules
error_text (error.AliasDisabled alias modules) = absent_text (codes "alias ") alias modules
error_text (error.ExpectedSubmoduleButFoundRecipe path) = naming (codes "expected submodule at ") path (codes " but found recipe")
error_text (error.UnknownOption recipe switch) = of_switch recipe (codes " does not have option ") switch []
error_text (error.InvalidOption argument) = naming (codes "argument ") argument (codes " is not a valid option")
error_text (error.FlagWithValue recipe switch) = of_switch recipe (codes " flag ") switch (codes " does not take value")
error_text (error.NonFinalOptionWithValue recipe switch) = of_switch recipe (codes " option ") switch (codes " takes a value and so must be last when combined with other options")
error_text (error.OptionMissingValue recipe switch) = of_switch recipe (codes " option ") switch (codes " missing value")
error_text (error.DuplicateOption recipe switch) = of_switch recipe (codes " option ") switch (codes " cannot be passed more than once")
error_text (error.PositionalArgumentCountMismatch recipe path parameters found) = count_text recipe path parameters found
error_text (error.MissingOption recipe switch) = of_switch recipe (codes " requires option ") switch []
error_text (error.ArgumentTooFewValues recipe parameter found number) = values_text recipe parameter found (codes "least") number
error_text (error.ArgumentTooManyValues recipe parameter found number) = values_text recipe parameter found (codes "most") number
error_text (error.ArgumentPatternMismatch argument recipe parameter patterns) = pattern_text argument recipe parameter patterns
error_text (error.EmptyListArgument recipe parameter) = of_part recipe (codes " parameter ") parameter (codes " requires at least one element but received empty list")
error_text (error.ExcessInvocations count) = codes "error: expected 1 command-line recipe invocation but found " ++ decimal count
error_text (error.RecipeRequired subcommand) = codes "error: `--" ++ (subcommand ++ codes "` requires recipe")
error_text (error.UnknownGroup group) = naming (codes "justfile does not contain group ") group []
error_text (error.EvalUnknownSubmodule submodule) = naming (codes "justfile does not contain submodule ") submodule []
error_text (error.EvalUnknownSubmoduleOrVariable name) = naming (codes "justfile does not contain variable or submodule ") name []
error_text error.FormatCheckFoundDiff = codes "error: formatted justfile differs from original"
error_text error.NoChoosableRecipes = codes "error: justfile contains no choosable recipes"
error_text (error.ChooserInvoke shell arguments chooser io) = chooser_text shell arguments chooser io
error_text (error.ChooserRead chooser io) = naming (codes "failed to read output from chooser ") chooser (codes ": " ++ fault_text io)
error_text (error.ChooserWrite chooser io) = naming (codes "failed to write to chooser ") chooser (codes ": " ++ fault_text io)
error_text (error.ChooserStatus chooser ending) = naming (codes "chooser ") chooser (codes " failed: ") ++ status_text ending
error_text (error.EditorInvoke editor io) = naming (codes "editor ") editor (codes " invocation failed: " ++ fault_text io)
error_text (error.EditorStatus editor ending) = naming (codes "editor ") editor (codes " failed: ") ++ status_text ending
error_text (error.CommandInvoke binary arguments io) = codes "error: failed to invoke " ++ (words_ticked binary arguments ++ (codes ": " ++ fault_text io))
error_text (error.CommandStatus binary arguments ending) = codes "error: command " ++ (words_ticked binary arguments ++ (codes " failed: " ++ status_text ending))
error_text error.ClosureLimit = codes "error: request needs more than 1000000 recipes"
error_text (error.InvalidShebang recipe shebang) = of_part recipe (codes " has invalid shebang ") shebang []
error_text (error.Code recipe line code message) = failed_text recipe line ++ (codes " with exit code " ++ signed_decimal code)
error_text (error.GuardCode recipe line code) =
    codes "error: guard line in recipe " ++ (ticked recipe ++ (codes " on line " ++ (decimal line ++ (codes " returned reserved exit code " ++ signed_decimal code))))
error_text (error.Signal recipe line signal) = terminated_text recipe line ++ (codes " by signal " ++ signed_decimal signal)
error_text (error.Unknown recipe line) = failed_text recipe line ++ codes " for an unknown reason"
error_text (error.ShellIo recipe shell io) = shell_text recipe shell io
error_text (error.Script recipe command io) = script_text recipe command io
error_text (error.Shebang recipe command argument io) = shebang_text recipe command argument io
error_text (error.TempdirIo recipe io) = folder_text recipe io
error_text (error.CacheInputMissing path) = naming (codes "cache input does not exist: ") path []
error_text (error.CacheInputDirectory path) = naming (codes "cache input is directory: ") path []
error_text (error.CacheOutputMissing recipe output) = of_part recipe (codes " failed to create cache output ") output []
error_text (error.CacheEntryWrite path io) = naming (codes "failed to write cache entry at ") path (codes ": " ++ fault_text io)
error_text (error.NotConfirmed recipe) = naming (codes "recipe ") recipe (codes " was not confirmed")
error_text (error.GetConfirmation io) = codes "error: failed to read confirmation from stdin: " ++ fault_text io
error_text (error.StdoutIo io) = codes "error: I/O error writing to stdout: " ++ fault_text io
error_text (error.InitExists justfile) = naming (codes "justfile ") justfile (codes " already exists")
error_text (error.WriteJustfile justfile io) = naming (codes "failed to write justfile to ") justfile (codes ": " ++ fault_text io)
error_text (error.Interrupted signal) = codes "error: interrupted by " ++ name_of signal
error_text error.NoMemory = codes "error: out of memory"
