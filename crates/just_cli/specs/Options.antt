-- Which names may be missing.
use Rattle.std.specs.Prelude.{Bool, true, false, ◌&&◌, if◌then◌else◌, [], option_map, Result, Ok, Err}
use Rattle.std.specs.Int.NonZero.{non_zero_u64_get}
use Rattle.just_config.specs.declared.config.Config.{Config}
use Rattle.just_exec.specs.declared.error.Error.{Error}
use Rattle.just_exec.specs.declared.error.Error.TheVariants as error
use Rattle.just_cli_plan.specs.Request.{Outline}
use Rattle.just_cli.specs.Replies.{Reply}

-- ---- names that are missing

-- whether a justfile lacks a recipe or a module that is asked for
abbrev pub is_lacking : Error → Bool
is_lacking (error.Usage u) = false
is_lacking (error.Config c) = false
is_lacking (error.CurrentDir io) = false
is_lacking (error.Search s) = false
is_lacking (error.Load path io) = false
is_lacking (error.FilesystemIo path io) = false
is_lacking error.MissingImportFile = false
is_lacking (error.CircularImport current import) = false
is_lacking (error.MissingModuleFile name) = false
is_lacking (error.AmbiguousModuleFile name found) = false
is_lacking error.Homedir = false
is_lacking (error.Compile c) = false
is_lacking (error.Const path line column) = false
is_lacking (error.UnstableFeature feature) = false
is_lacking error.DotenvRequired = false
is_lacking (error.Dotenv path line) = false
is_lacking error.DotenvArgumentsRequireLists = false
is_lacking (error.DotenvCommand command output_error) = false
is_lacking (error.UnknownOverrides overrides) = false
is_lacking (error.FunctionCall name) = false
is_lacking error.NoRecipes = false
is_lacking error.NoDefaultRecipe = false
is_lacking (error.DefaultRecipeRequiresArguments recipe min_arguments) = false
is_lacking (error.UnknownRecipe recipe) = true
is_lacking (error.UnknownSubmodule path) = true
is_lacking (error.ModuleAbsent name) = false
is_lacking (error.RecipeDisabled recipe modules) = false
is_lacking (error.AliasDisabled alias modules) = false
is_lacking (error.ExpectedSubmoduleButFoundRecipe path) = false
is_lacking (error.UnknownOption recipe switch) = false
is_lacking (error.InvalidOption argument) = false
is_lacking (error.FlagWithValue recipe switch) = false
is_lacking (error.NonFinalOptionWithValue recipe switch) = false
is_lacking (error.OptionMissingValue recipe switch) = false
is_lacking (error.DuplicateOption recipe switch) = false
is_lacking (error.PositionalArgumentCountMismatch recipe path parameters found) = false
is_lacking (error.MissingOption recipe switch) = false
is_lacking (error.ArgumentTooFewValues recipe parameter found min) = false
is_lacking (error.ArgumentTooManyValues recipe parameter found max) = false
is_lacking (error.ArgumentPatternMismatch argument recipe parameter texts) = false
is_lacking (error.EmptyListArgument recipe parameter) = false
is_lacking (error.ExcessInvocations invocations) = false
is_lacking (error.RecipeRequired subcommand) = false
is_lacking (error.UnknownGroup group) = false
is_lacking (error.EvalUnknownSubmodule submodule) = false
is_lacking (error.EvalUnknownSubmoduleOrVariable name) = false
is_lacking error.FormatCheckFoundDiff = false
is_lacking error.NoChoosableRecipes = false
is_lacking (error.ChooserInvoke shell arguments chooser io) = false
is_lacking (error.ChooserRead chooser io) = false
is_lacking (error.ChooserWrite chooser io) = false
is_lacking (error.ChooserStatus chooser ending) = false
is_lacking (error.EditorInvoke editor io) = false
is_lacking (error.EditorStatus editor ending) = false
is_lacking (error.CommandInvoke binary arguments io) = false
is_lacking (error.CommandStatus binary arguments ending) = false
is_lacking error.ClosureLimit = false
is_lacking (error.InvalidShebang recipe shebang) = false
is_lacking (error.Code recipe line code message) = false
is_lacking (error.GuardCode recipe line code) = false
is_lacking (error.Signal recipe line signal) = false
is_lacking (error.Unknown recipe line) = false
is_lacking (error.ShellIo recipe shell io) = false
is_lacking (error.Script recipe command io) = false
is_lacking (error.Shebang recipe command argument io) = false
is_lacking (error.TempdirIo recipe io) = false
is_lacking (error.CacheInputMissing path) = false
is_lacking (error.CacheInputDirectory path) = false
is_lacking (error.CacheOutputMissing recipe output) = false
is_lacking (error.CacheEntryWrite path io) = false
is_lacking (error.NotConfirmed recipe) = false
is_lacking (error.GetConfirmation io) = false
is_lacking (error.StdoutIo io) = false
is_lacking (error.InitExists justfile) = false
is_lacking (error.WriteJustfile justfile io) = false
is_lacking (error.Interrupted signal) = false
is_lacking error.NoMemory = false

abbrev pub lacks : Result Reply Error → Bool
lacks (Ok x) = false
lacks (Err e) = is_lacking e

-- whether a recipe or a module that is asked for is missing: the justfile lacks it, or the file of an optional module isn't there
abbrev pub is_missing : Error → Bool
is_missing (error.Usage u) = false
is_missing (error.Config c) = false
is_missing (error.CurrentDir io) = false
is_missing (error.Search s) = false
is_missing (error.Load path io) = false
is_missing (error.FilesystemIo path io) = false
is_missing error.MissingImportFile = false
is_missing (error.CircularImport current import) = false
is_missing (error.MissingModuleFile name) = false
is_missing (error.AmbiguousModuleFile name found) = false
is_missing error.Homedir = false
is_missing (error.Compile c) = false
is_missing (error.Const path line column) = false
is_missing (error.UnstableFeature feature) = false
is_missing error.DotenvRequired = false
is_missing (error.Dotenv path line) = false
is_missing error.DotenvArgumentsRequireLists = false
is_missing (error.DotenvCommand command output_error) = false
is_missing (error.UnknownOverrides overrides) = false
is_missing (error.FunctionCall name) = false
is_missing error.NoRecipes = false
is_missing error.NoDefaultRecipe = false
is_missing (error.DefaultRecipeRequiresArguments recipe min_arguments) = false
is_missing (error.UnknownRecipe recipe) = true
is_missing (error.UnknownSubmodule path) = true
is_missing (error.ModuleAbsent name) = true
is_missing (error.RecipeDisabled recipe modules) = false
is_missing (error.AliasDisabled alias modules) = false
is_missing (error.ExpectedSubmoduleButFoundRecipe path) = false
is_missing (error.UnknownOption recipe switch) = false
is_missing (error.InvalidOption argument) = false
is_missing (error.FlagWithValue recipe switch) = false
is_missing (error.NonFinalOptionWithValue recipe switch) = false
is_missing (error.OptionMissingValue recipe switch) = false
is_missing (error.DuplicateOption recipe switch) = false
is_missing (error.PositionalArgumentCountMismatch recipe path parameters found) = false
is_missing (error.MissingOption recipe switch) = false
is_missing (error.ArgumentTooFewValues recipe parameter found min) = false
is_missing (error.ArgumentTooManyValues recipe parameter found max) = false
is_missing (error.ArgumentPatternMismatch argument recipe parameter texts) = false
is_missing (error.EmptyListArgument recipe parameter) = false
is_missing (error.ExcessInvocations invocations) = false
is_missing (error.RecipeRequired subcommand) = false
is_missing (error.UnknownGroup group) = false
is_missing (error.EvalUnknownSubmodule submodule) = false
is_missing (error.EvalUnknownSubmoduleOrVariable name) = false
is_missing error.FormatCheckFoundDiff = false
is_missing error.NoChoosableRecipes = false
is_missing (error.ChooserInvoke shell arguments chooser io) = false
is_missing (error.ChooserRead chooser io) = false
is_missing (error.ChooserWrite chooser io) = false
is_missing (error.ChooserStatus chooser ending) = false
is_missing (error.EditorInvoke editor io) = false
is_missing (error.EditorStatus editor ending) = false
is_missing (error.CommandInvoke binary arguments io) = false
is_missing (error.CommandStatus binary arguments ending) = false
is_missing error.ClosureLimit = false
is_missing (error.InvalidShebang recipe shebang) = false
is_missing (error.Code recipe line code message) = false
is_missing (error.GuardCode recipe line code) = false
is_missing (error.Signal recipe line signal) = false
is_missing (error.Unknown recipe line) = false
is_missing (error.ShellIo recipe shell io) = false
is_missing (error.Script recipe command io) = false
is_missing (error.Shebang recipe command argument io) = false
is_missing (error.TempdirIo recipe io) = false
is_missing (error.CacheInputMissing path) = false
is_missing (error.CacheInputDirectory path) = false
is_missing (error.CacheOutputMissing recipe output) = false
is_missing (error.CacheEntryWrite path io) = false
is_missing (error.NotConfirmed recipe) = false
is_missing (error.GetConfirmation io) = false
is_missing (error.StdoutIo io) = false
is_missing (error.InitExists justfile) = false
is_missing (error.WriteJustfile justfile io) = false
is_missing (error.Interrupted signal) = false
is_missing error.NoMemory = false

-- the plan of no node
abbrev pub empty_outline : Config → Outline
empty_outline c = record { nodes = []; invocations = []; jobs = option_map non_zero_u64_get c.jobs; messages = [] }

-- the answer to the words, where they may allow that a name is missing: then nothing is run
abbrev pub allowed : Config → Result Reply Error → Result Reply Error
allowed c (Ok x) = Ok x
allowed c (Err e) = if c.allow_missing && is_missing e then Ok (Reply.runs (empty_outline c)) else Err e
