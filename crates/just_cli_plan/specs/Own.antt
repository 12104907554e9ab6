-- Errors that a request determines, and those that it doesn't.
use Rattle.std.specs.Prelude.{ℕ, ◌≡◌, ◌⊎◌, Bool, true, false, List, [], Option, Some, None, is_some, Result, Ok, Err}
use Rattle.just_path.specs.declared.host.Miss.TheVariants as miss
use Rattle.just_host_record.specs.Looks.{dash}
use Rattle.just_host_record.specs.declared.entry.HostFault.{HostFault}
use Rattle.just_host_record.specs.declared.entry.HostFault.TheVariants as fault
use Rattle.just_env.specs.declared.search_error.SearchError.TheVariants as search
use Rattle.just_env.specs.declared.env_error.OutputError.TheVariants as output
use Rattle.just_lang_types.specs.declared.error.CompileKind.{CompileKind}
use Rattle.just_lang_types.specs.declared.error.CompileKind.TheVariants as kind
use Rattle.just_exec.specs.declared.error.Error.{Error}
use Rattle.just_exec.specs.declared.error.Error.TheVariants as error

-- that error, or want of memory
abbrev pub OrMemory : (Error → Type 0) → Error → Type 0
OrMemory holds e = (e ≡ error.NoMemory) ⊎ holds e

-- The path of the refused call that an error tells, empty where it tells none, and the refusal. A child that is run for what it prints and a justfile's
-- temporary folder have that path, which the error doesn't tell.
abbrev pub call_at : List ℕ → Error → Option (List ℕ × HostFault)
call_at here (error.FilesystemIo path io) = Some (path, io)
call_at here (error.Load path io) = Some (path, io)
call_at here (error.CurrentDir io) = Some ([], io)
call_at here (error.Search (search.StdinIo io)) = Some (dash, io)
call_at here (error.Search (search.TempdirIo io)) = Some (here, io)
call_at here (error.DotenvCommand command (output.Io io)) = Some (here, io)
call_at here (error.ShellIo recipe shell io) = Some ([], io)
call_at here (error.Script recipe command io) = Some ([], io)
call_at here (error.Shebang recipe command argument io) = Some ([], io)
call_at here (error.TempdirIo recipe io) = Some ([], io)
call_at here (error.CacheInputMissing path) = Some (path, fault.Missed miss.NotFound)
call_at here (error.CacheInputDirectory path) = Some (path, fault.Missed miss.IsFolder)
call_at here (error.CacheEntryWrite path io) = Some (path, io)
call_at here (error.GetConfirmation io) = Some ([], io)
call_at here (error.StdoutIo io) = Some ([], io)
call_at here (error.WriteJustfile justfile io) = Some (justfile, io)
call_at here (error.Usage e) = None
call_at here (error.Config e) = None
call_at here (error.Search (search.FilesystemIo path io)) = None
call_at here (error.Search search.GlobalJustfileInit) = None
call_at here (error.Search search.GlobalJustfileNotFound) = None
call_at here (error.Search search.InitWithJustfileFromStandardInput) = None
call_at here (error.Search (search.JustfileHadNoParent path)) = None
call_at here (error.Search (search.MultipleCandidates folder candidates)) = None
call_at here (error.Search search.NotFound) = None
call_at here (error.Search (search.Load path io)) = None
call_at here (error.Search (search.Lang e)) = None
call_at here (error.Search search.NoMemory) = None
call_at here error.MissingImportFile = None
call_at here (error.CircularImport current import) = None
call_at here (error.MissingModuleFile name) = None
call_at here (error.AmbiguousModuleFile name found) = None
call_at here error.Homedir = None
call_at here (error.Compile e) = None
call_at here (error.Const path line column) = None
call_at here (error.UnstableFeature feature) = None
call_at here error.DotenvRequired = None
call_at here (error.Dotenv path line) = None
call_at here error.DotenvArgumentsRequireLists = None
call_at here (error.DotenvCommand command (output.Code code)) = None
call_at here (error.DotenvCommand command (output.Signal number)) = None
call_at here (error.DotenvCommand command output.Unknown) = None
call_at here (error.DotenvCommand command output.Utf8) = None
call_at here (error.UnknownOverrides overrides) = None
call_at here (error.FunctionCall name) = None
call_at here error.NoRecipes = None
call_at here error.NoDefaultRecipe = None
call_at here (error.DefaultRecipeRequiresArguments recipe min_arguments) = None
call_at here (error.UnknownRecipe recipe) = None
call_at here (error.UnknownSubmodule path) = None
call_at here (error.ModuleAbsent name) = None
call_at here (error.RecipeDisabled recipe modules) = None
call_at here (error.AliasDisabled alias modules) = None
call_at here (error.ExpectedSubmoduleButFoundRecipe path) = None
call_at here (error.UnknownOption recipe switch) = None
call_at here (error.InvalidOption argument) = None
call_at here (error.FlagWithValue recipe switch) = None
call_at here (error.NonFinalOptionWithValue recipe switch) = None
call_at here (error.OptionMissingValue recipe switch) = None
call_at here (error.DuplicateOption recipe switch) = None
call_at here (error.PositionalArgumentCountMismatch recipe path parameters found) = None
call_at here (error.MissingOption recipe switch) = None
call_at here (error.ArgumentTooFewValues recipe parameter found min) = None
call_at here (error.ArgumentTooManyValues recipe parameter found max) = None
call_at here (error.ArgumentPatternMismatch argument recipe parameter texts) = None
call_at here (error.EmptyListArgument recipe parameter) = None
call_at here (error.ExcessInvocations invocations) = None
call_at here (error.RecipeRequired subcommand) = None
call_at here (error.UnknownGroup group) = None
call_at here (error.EvalUnknownSubmodule submodule) = None
call_at here (error.EvalUnknownSubmoduleOrVariable name) = None
call_at here error.FormatCheckFoundDiff = None
call_at here error.NoChoosableRecipes = None
call_at here (error.ChooserInvoke shell arguments chooser io) = Some (here, io)
call_at here (error.ChooserRead chooser io) = Some (here, io)
call_at here (error.ChooserWrite chooser io) = Some (here, io)
call_at here (error.ChooserStatus chooser ending) = None
call_at here (error.EditorInvoke editor io) = Some ([], io)
call_at here (error.EditorStatus editor ending) = None
call_at here (error.CommandInvoke binary arguments io) = Some ([], io)
call_at here (error.CommandStatus binary arguments ending) = None
call_at here error.ClosureLimit = None
call_at here (error.InvalidShebang recipe shebang) = None
call_at here (error.Code recipe line code message) = None
call_at here (error.GuardCode recipe line code) = None
call_at here (error.Signal recipe line signal) = None
call_at here (error.Unknown recipe line) = None
call_at here (error.CacheOutputMissing recipe output) = None
call_at here (error.NotConfirmed recipe) = None
call_at here (error.InitExists justfile) = None
call_at here (error.Interrupted signal) = None
call_at here error.NoMemory = None

-- the same, where the error has the path of its own or the call has none
abbrev pub call_in : Error → Option (List ℕ × HostFault)
call_in e = call_at [] e

abbrev pub is_failed_call : Option (List ℕ × HostFault) → Bool
is_failed_call (Some (path, fault.Failed c)) = true
is_failed_call (Some (path, fault.Missed m)) = false
is_failed_call (Some (path, fault.NoMemory)) = false
is_failed_call None = false

abbrev pub is_missed_call : Option (List ℕ × HostFault) → Bool
is_missed_call (Some (path, fault.Missed m)) = true
is_missed_call (Some (path, fault.Failed c)) = false
is_missed_call (Some (path, fault.NoMemory)) = false
is_missed_call None = false

-- the error is of a call of the host that failed, or that missed
abbrev pub is_fault : Error → Bool
is_fault e = is_failed_call (call_in e)

abbrev pub is_miss : Error → Bool
is_miss e = is_missed_call (call_in e)

-- the kind of a broken rule, if an error is one
abbrev pub kind_in : Error → Option CompileKind
kind_in (error.Usage u) = None
kind_in (error.Config c) = None
kind_in (error.CurrentDir io) = None
kind_in (error.Search s) = None
kind_in (error.Load path io) = None
kind_in (error.FilesystemIo path io) = None
kind_in error.MissingImportFile = None
kind_in (error.CircularImport current import) = None
kind_in (error.MissingModuleFile name) = None
kind_in (error.AmbiguousModuleFile name found) = None
kind_in error.Homedir = None
kind_in (error.Compile c) = Some c.kind
kind_in (error.Const path line column) = None
kind_in (error.UnstableFeature feature) = None
kind_in error.DotenvRequired = None
kind_in (error.Dotenv path line) = None
kind_in error.DotenvArgumentsRequireLists = None
kind_in (error.DotenvCommand command output_error) = None
kind_in (error.UnknownOverrides overrides) = None
kind_in (error.FunctionCall name) = None
kind_in error.NoRecipes = None
kind_in error.NoDefaultRecipe = None
kind_in (error.DefaultRecipeRequiresArguments recipe min_arguments) = None
kind_in (error.UnknownRecipe recipe) = None
kind_in (error.UnknownSubmodule path) = None
kind_in (error.ModuleAbsent name) = None
kind_in (error.RecipeDisabled recipe modules) = None
kind_in (error.AliasDisabled alias modules) = None
kind_in (error.ExpectedSubmoduleButFoundRecipe path) = None
kind_in (error.UnknownOption recipe switch) = None
kind_in (error.InvalidOption argument) = None
kind_in (error.FlagWithValue recipe switch) = None
kind_in (error.NonFinalOptionWithValue recipe switch) = None
kind_in (error.OptionMissingValue recipe switch) = None
kind_in (error.DuplicateOption recipe switch) = None
kind_in (error.PositionalArgumentCountMismatch recipe path parameters found) = None
kind_in (error.MissingOption recipe switch) = None
kind_in (error.ArgumentTooFewValues recipe parameter found min) = None
kind_in (error.ArgumentTooManyValues recipe parameter found max) = None
kind_in (error.ArgumentPatternMismatch argument recipe parameter texts) = None
kind_in (error.EmptyListArgument recipe parameter) = None
kind_in (error.ExcessInvocations invocations) = None
kind_in (error.RecipeRequired subcommand) = None
kind_in (error.UnknownGroup group) = None
kind_in (error.EvalUnknownSubmodule submodule) = None
kind_in (error.EvalUnknownSubmoduleOrVariable name) = None
kind_in error.FormatCheckFoundDiff = None
kind_in error.NoChoosableRecipes = None
kind_in (error.ChooserInvoke shell arguments chooser io) = None
kind_in (error.ChooserRead chooser io) = None
kind_in (error.ChooserWrite chooser io) = None
kind_in (error.ChooserStatus chooser ending) = None
kind_in (error.EditorInvoke editor io) = None
kind_in (error.EditorStatus editor ending) = None
kind_in (error.CommandInvoke binary arguments io) = None
kind_in (error.CommandStatus binary arguments ending) = None
kind_in error.ClosureLimit = None
kind_in (error.InvalidShebang recipe shebang) = None
kind_in (error.Code recipe line code message) = None
kind_in (error.GuardCode recipe line code) = None
kind_in (error.Signal recipe line signal) = None
kind_in (error.Unknown recipe line) = None
kind_in (error.ShellIo recipe shell io) = None
kind_in (error.Script recipe command io) = None
kind_in (error.Shebang recipe command argument io) = None
kind_in (error.TempdirIo recipe io) = None
kind_in (error.CacheInputMissing path) = None
kind_in (error.CacheInputDirectory path) = None
kind_in (error.CacheOutputMissing recipe output) = None
kind_in (error.CacheEntryWrite path io) = None
kind_in (error.NotConfirmed recipe) = None
kind_in (error.GetConfirmation io) = None
kind_in (error.StdoutIo io) = None
kind_in (error.InitExists justfile) = None
kind_in (error.WriteJustfile justfile io) = None
kind_in (error.Interrupted signal) = None
kind_in error.NoMemory = None

abbrev pub is_size : Option CompileKind → Bool
is_size (Some kind.Syntax) = false
is_size (Some kind.Unsupported) = false
is_size (Some kind.Depth) = false
is_size (Some kind.SourceLimit) = false
is_size (Some kind.ShellExpansion) = false
is_size (Some kind.UnknownSetting) = false
is_size (Some kind.DuplicateSetting) = false
is_size (Some kind.UnknownAttribute) = false
is_size (Some kind.DuplicateAttribute) = false
is_size (Some kind.AttributeConflict) = false
is_size (Some kind.DuplicateRecipe) = false
is_size (Some kind.DuplicateVariable) = false
is_size (Some kind.DuplicateAlias) = false
is_size (Some kind.DuplicateParameter) = false
is_size (Some kind.RequiredParameterFollowsDefault) = false
is_size (Some kind.UndefinedVariable) = false
is_size (Some kind.UnknownAliasTarget) = false
is_size (Some kind.UnknownDependency) = false
is_size (Some kind.DependencyArgumentCount) = false
is_size (Some kind.DependencyIsOption) = false
is_size (Some kind.CircularVariable) = false
is_size (Some kind.CircularRecipe) = false
is_size (Some kind.UnknownArgParameter) = false
is_size (Some kind.ArgumentPatternRegex) = false
is_size (Some kind.ArgumentPatternSize) = true
is_size (Some kind.GuardAndInfallible) = false
is_size (Some kind.DuplicateDefault) = false
is_size None = false

-- a pattern was too big to be built: what is too big, the library decides
abbrev pub is_too_big : Error → Bool
is_too_big e = is_size (kind_in e)

-- why a child that is run for what it prints wasn't run to its end, if an error tells that
abbrev pub uncaptured_by : Error → Option HostFault
uncaptured_by (error.Usage u) = None
uncaptured_by (error.Config c) = None
uncaptured_by (error.CurrentDir io) = None
uncaptured_by (error.Search s) = None
uncaptured_by (error.Load path io) = None
uncaptured_by (error.FilesystemIo path io) = None
uncaptured_by error.MissingImportFile = None
uncaptured_by (error.CircularImport current import) = None
uncaptured_by (error.MissingModuleFile name) = None
uncaptured_by (error.AmbiguousModuleFile name found) = None
uncaptured_by error.Homedir = None
uncaptured_by (error.Compile c) = None
uncaptured_by (error.Const path line column) = None
uncaptured_by (error.UnstableFeature feature) = None
uncaptured_by error.DotenvRequired = None
uncaptured_by (error.Dotenv path line) = None
uncaptured_by error.DotenvArgumentsRequireLists = None
uncaptured_by (error.DotenvCommand command (output.Io io)) = Some io
uncaptured_by (error.DotenvCommand command (output.Code code)) = None
uncaptured_by (error.DotenvCommand command (output.Signal number)) = None
uncaptured_by (error.DotenvCommand command output.Unknown) = None
uncaptured_by (error.DotenvCommand command output.Utf8) = None
uncaptured_by (error.UnknownOverrides overrides) = None
uncaptured_by (error.FunctionCall name) = None
uncaptured_by error.NoRecipes = None
uncaptured_by error.NoDefaultRecipe = None
uncaptured_by (error.DefaultRecipeRequiresArguments recipe min_arguments) = None
uncaptured_by (error.UnknownRecipe recipe) = None
uncaptured_by (error.UnknownSubmodule path) = None
uncaptured_by (error.ModuleAbsent name) = None
uncaptured_by (error.RecipeDisabled recipe modules) = None
uncaptured_by (error.AliasDisabled alias modules) = None
uncaptured_by (error.ExpectedSubmoduleButFoundRecipe path) = None
uncaptured_by (error.UnknownOption recipe switch) = None
uncaptured_by (error.InvalidOption argument) = None
uncaptured_by (error.FlagWithValue recipe switch) = None
uncaptured_by (error.NonFinalOptionWithValue recipe switch) = None
uncaptured_by (error.OptionMissingValue recipe switch) = None
uncaptured_by (error.DuplicateOption recipe switch) = None
uncaptured_by (error.PositionalArgumentCountMismatch recipe path parameters found) = None
uncaptured_by (error.MissingOption recipe switch) = None
uncaptured_by (error.ArgumentTooFewValues recipe parameter found min) = None
uncaptured_by (error.ArgumentTooManyValues recipe parameter found max) = None
uncaptured_by (error.ArgumentPatternMismatch argument recipe parameter texts) = None
uncaptured_by (error.EmptyListArgument recipe parameter) = None
uncaptured_by (error.ExcessInvocations invocations) = None
uncaptured_by (error.RecipeRequired subcommand) = None
uncaptured_by (error.UnknownGroup group) = None
uncaptured_by (error.EvalUnknownSubmodule submodule) = None
uncaptured_by (error.EvalUnknownSubmoduleOrVariable name) = None
uncaptured_by error.FormatCheckFoundDiff = None
uncaptured_by error.NoChoosableRecipes = None
uncaptured_by (error.ChooserInvoke shell arguments chooser io) = Some io
uncaptured_by (error.ChooserRead chooser io) = Some io
uncaptured_by (error.ChooserWrite chooser io) = Some io
uncaptured_by (error.ChooserStatus chooser ending) = None
uncaptured_by (error.EditorInvoke editor io) = None
uncaptured_by (error.EditorStatus editor ending) = None
uncaptured_by (error.CommandInvoke binary arguments io) = None
uncaptured_by (error.CommandStatus binary arguments ending) = None
uncaptured_by error.ClosureLimit = None
uncaptured_by (error.InvalidShebang recipe shebang) = None
uncaptured_by (error.Code recipe line code message) = None
uncaptured_by (error.GuardCode recipe line code) = None
uncaptured_by (error.Signal recipe line signal) = None
uncaptured_by (error.Unknown recipe line) = None
uncaptured_by (error.ShellIo recipe shell io) = None
uncaptured_by (error.Script recipe command io) = None
uncaptured_by (error.Shebang recipe command argument io) = None
uncaptured_by (error.TempdirIo recipe io) = None
uncaptured_by (error.CacheInputMissing path) = None
uncaptured_by (error.CacheInputDirectory path) = None
uncaptured_by (error.CacheOutputMissing recipe output) = None
uncaptured_by (error.CacheEntryWrite path io) = None
uncaptured_by (error.NotConfirmed recipe) = None
uncaptured_by (error.GetConfirmation io) = None
uncaptured_by (error.StdoutIo io) = None
uncaptured_by (error.InitExists justfile) = None
uncaptured_by (error.WriteJustfile justfile io) = None
uncaptured_by (error.Interrupted signal) = None
uncaptured_by error.NoMemory = None

-- a child that gives dotenv pairs wasn't run to its end: a world doesn't show why
abbrev pub is_uncaptured : Error → Bool
is_uncaptured e = is_some (uncaptured_by e)

-- An answer that world and words determine, and the children that were run to their end for it: no failure of the host, no child that wasn't run to its
-- end, and no pattern that is too big.
abbrev pub IsOwn : {A : Type 0} → Result A Error → Type 0
IsOwn (Ok x) = Unit {0}
IsOwn (Err e) = (is_fault e ≡ false) × (is_too_big e ≡ false) × (is_uncaptured e ≡ false)
