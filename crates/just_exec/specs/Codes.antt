-- The exit codes of errors, and which errors are printed.
use Rattle.std.specs.Prelude.{◌+◌, ◌+ℤ◌, ℤ, pos, Bool, true, false, if◌then◌else◌, int_le, Option, Some, None}
use Rattle.just_host_record.specs.Signals.{number_of}
use Rattle.just_host_record.specs.declared.entry.Call.TheVariants as call
use Rattle.just_host_record.specs.declared.entry.HostFault.{HostFault}
use Rattle.just_host_record.specs.declared.entry.HostFault.TheVariants as fault
use Rattle.just_host_record.specs.declared.entry.Status.{Status}
use Rattle.just_host_record.specs.declared.entry.Status.TheVariants as status
use Rattle.just_env.specs.declared.env_error.OutputError.{OutputError}
use Rattle.just_env.specs.declared.env_error.OutputError.TheVariants as output
use Rattle.just_exec.specs.declared.error.Error.{Error}
use Rattle.just_exec.specs.declared.error.Error.TheVariants as error

-- 128 and the number of a signal, where that is a code
abbrev pub signal_code : ℤ → Option ℤ
signal_code number = if int_le (number +ℤ pos 128) (pos 2147483647) then Some (number +ℤ pos 128) else None

-- the code of a child that ended so
abbrev pub status_code : Status → Option ℤ
status_code (status.Code z) = Some z
status_code (status.Signal number) = signal_code number
status_code status.Unknown = None

-- the code of a command's own; 1 where it ended otherwise than by a code or a signal
abbrev pub output_code : OutputError → Option ℤ
output_code (output.Code code) = Some code
output_code (output.Signal number) = signal_code number
output_code (output.Io io) = Some (pos 1)
output_code output.Unknown = Some (pos 1)
output_code output.Utf8 = Some (pos 1)

-- the exit code that an error stands for: that of a child of its own, and 128 and the number of a signal, where that is a code
abbrev pub code_of : Error → Option ℤ
code_of (error.Code recipe line code message) = Some code
code_of (error.Interrupted signal) = Some (pos (128 + number_of signal))
code_of (error.Signal recipe line signal) = signal_code signal
code_of (error.DotenvCommand command e) = output_code e
code_of (error.Usage x) = None
code_of (error.Config x) = None
code_of (error.CurrentDir io) = None
code_of (error.Search x) = None
code_of (error.Load path io) = None
code_of (error.FilesystemIo path io) = None
code_of error.MissingImportFile = None
code_of (error.CircularImport current import) = None
code_of (error.MissingModuleFile m) = None
code_of (error.AmbiguousModuleFile m found) = None
code_of error.Homedir = None
code_of (error.Compile x) = None
code_of (error.Const path line column) = None
code_of (error.UnstableFeature x) = None
code_of error.DotenvRequired = None
code_of (error.Dotenv path line) = None
code_of error.DotenvArgumentsRequireLists = None
code_of (error.UnknownOverrides overrides) = None
code_of (error.FunctionCall name) = None
code_of error.NoRecipes = None
code_of error.NoDefaultRecipe = None
code_of (error.DefaultRecipeRequiresArguments recipe min_arguments) = None
code_of (error.UnknownRecipe recipe) = None
code_of (error.UnknownSubmodule path) = None
code_of (error.ModuleAbsent m) = None
code_of (error.RecipeDisabled recipe modules) = None
code_of (error.AliasDisabled alias modules) = None
code_of (error.ExpectedSubmoduleButFoundRecipe path) = None
code_of (error.UnknownOption recipe switch) = None
code_of (error.InvalidOption argument) = None
code_of (error.FlagWithValue recipe switch) = None
code_of (error.NonFinalOptionWithValue recipe switch) = None
code_of (error.OptionMissingValue recipe switch) = None
code_of (error.DuplicateOption recipe switch) = None
code_of (error.PositionalArgumentCountMismatch recipe path parameters found) = None
code_of (error.MissingOption recipe switch) = None
code_of (error.ArgumentTooFewValues recipe parameter found min) = None
code_of (error.ArgumentTooManyValues recipe parameter found max) = None
code_of (error.ArgumentPatternMismatch argument recipe parameter pattern) = None
code_of (error.EmptyListArgument recipe parameter) = None
code_of (error.ExcessInvocations invocations) = None
code_of (error.RecipeRequired subcommand) = None
code_of (error.UnknownGroup group) = None
code_of (error.EvalUnknownSubmodule submodule) = None
code_of (error.EvalUnknownSubmoduleOrVariable name) = None
code_of error.FormatCheckFoundDiff = None
code_of error.NoChoosableRecipes = None
code_of (error.ChooserInvoke shell arguments chooser io) = None
code_of (error.ChooserRead chooser io) = None
code_of (error.ChooserWrite chooser io) = None
code_of (error.ChooserStatus chooser ending) = status_code ending
code_of (error.EditorInvoke editor io) = None
code_of (error.EditorStatus editor ending) = status_code ending
code_of (error.CommandInvoke binary arguments io) = None
code_of (error.CommandStatus binary arguments ending) = status_code ending
code_of error.ClosureLimit = None
code_of (error.InvalidShebang recipe shebang) = None
code_of (error.GuardCode recipe line code) = None
code_of (error.Unknown recipe line) = None
code_of (error.ShellIo recipe shell io) = None
code_of (error.Script recipe command io) = None
code_of (error.Shebang recipe command argument io) = None
code_of (error.TempdirIo recipe io) = None
code_of (error.CacheInputMissing path) = None
code_of (error.CacheInputDirectory path) = None
code_of (error.CacheOutputMissing recipe output) = None
code_of (error.CacheEntryWrite path io) = None
code_of (error.NotConfirmed recipe) = None
code_of (error.GetConfirmation io) = None
code_of (error.StdoutIo io) = None
code_of (error.InitExists justfile) = None
code_of (error.WriteJustfile justfile io) = None
code_of error.NoMemory = None

-- whether an error is printed
abbrev pub prints : Error → Bool
prints (error.Code recipe line code message) = message
prints (error.Usage x) = true
prints (error.Config x) = true
prints (error.CurrentDir io) = true
prints (error.Search x) = true
prints (error.Load path io) = true
prints (error.FilesystemIo path io) = true
prints error.MissingImportFile = true
prints (error.CircularImport current import) = true
prints (error.MissingModuleFile m) = true
prints (error.AmbiguousModuleFile m found) = true
prints error.Homedir = true
prints (error.Compile x) = true
prints (error.Const path line column) = true
prints (error.UnstableFeature x) = true
prints error.DotenvRequired = true
prints (error.Dotenv path line) = true
prints error.DotenvArgumentsRequireLists = true
prints (error.DotenvCommand command output_error) = true
prints (error.UnknownOverrides overrides) = true
prints (error.FunctionCall name) = true
prints error.NoRecipes = true
prints error.NoDefaultRecipe = true
prints (error.DefaultRecipeRequiresArguments recipe min_arguments) = true
prints (error.UnknownRecipe recipe) = true
prints (error.UnknownSubmodule path) = true
prints (error.ModuleAbsent m) = true
prints (error.RecipeDisabled recipe modules) = true
prints (error.AliasDisabled alias modules) = true
prints (error.ExpectedSubmoduleButFoundRecipe path) = true
prints (error.UnknownOption recipe switch) = true
prints (error.InvalidOption argument) = true
prints (error.FlagWithValue recipe switch) = true
prints (error.NonFinalOptionWithValue recipe switch) = true
prints (error.OptionMissingValue recipe switch) = true
prints (error.DuplicateOption recipe switch) = true
prints (error.PositionalArgumentCountMismatch recipe path parameters found) = true
prints (error.MissingOption recipe switch) = true
prints (error.ArgumentTooFewValues recipe parameter found min) = true
prints (error.ArgumentTooManyValues recipe parameter found max) = true
prints (error.ArgumentPatternMismatch argument recipe parameter pattern) = true
prints (error.EmptyListArgument recipe parameter) = true
prints (error.ExcessInvocations invocations) = true
prints (error.RecipeRequired subcommand) = true
prints (error.UnknownGroup group) = true
prints (error.EvalUnknownSubmodule submodule) = true
prints (error.EvalUnknownSubmoduleOrVariable name) = true
prints error.FormatCheckFoundDiff = true
prints error.NoChoosableRecipes = true
prints (error.ChooserInvoke shell arguments chooser io) = true
prints (error.ChooserRead chooser io) = true
prints (error.ChooserWrite chooser io) = true
prints (error.ChooserStatus chooser ending) = true
prints (error.EditorInvoke editor io) = true
prints (error.EditorStatus editor ending) = true
prints (error.CommandInvoke binary arguments io) = true
prints (error.CommandStatus binary arguments ending) = true
prints error.ClosureLimit = true
prints (error.InvalidShebang recipe shebang) = true
prints (error.GuardCode recipe line code) = true
prints (error.Signal recipe line signal) = true
prints (error.Unknown recipe line) = true
prints (error.ShellIo recipe shell io) = true
prints (error.Script recipe command io) = true
prints (error.Shebang recipe command argument io) = true
prints (error.TempdirIo recipe io) = true
prints (error.CacheInputMissing path) = true
prints (error.CacheInputDirectory path) = true
prints (error.CacheOutputMissing recipe output) = true
prints (error.CacheEntryWrite path io) = true
prints (error.NotConfirmed recipe) = true
prints (error.GetConfirmation io) = true
prints (error.StdoutIo io) = true
prints (error.InitExists justfile) = true
prints (error.WriteJustfile justfile io) = true
prints (error.Interrupted x) = true
prints error.NoMemory = true

-- whether a fault is that of asking for the environment
abbrev pub is_environ_fault : HostFault → Bool
is_environ_fault (fault.Failed call.Environ) = true
is_environ_fault (fault.Failed call.Meta) = false
is_environ_fault (fault.Failed call.List) = false
is_environ_fault (fault.Failed call.Canonical) = false
is_environ_fault (fault.Failed call.Link) = false
is_environ_fault (fault.Failed call.Current) = false
is_environ_fault (fault.Failed call.Read) = false
is_environ_fault (fault.Failed call.Input) = false
is_environ_fault (fault.Failed call.Ask) = false
is_environ_fault (fault.Failed call.Write) = false
is_environ_fault (fault.Failed call.MakeFolder) = false
is_environ_fault (fault.Failed call.Temp) = false
is_environ_fault (fault.Failed call.Remove) = false
is_environ_fault (fault.Failed call.Print) = false
is_environ_fault (fault.Failed call.Sum) = false
is_environ_fault (fault.Failed call.Probe) = false
is_environ_fault (fault.Failed call.Check) = false
is_environ_fault (fault.Failed call.Save) = false
is_environ_fault (fault.Failed call.Start) = false
is_environ_fault (fault.Failed call.Wait) = false
is_environ_fault (fault.Failed call.Capture) = false
is_environ_fault (fault.Missed m) = false
is_environ_fault fault.NoMemory = false

-- whether an error is printed also where the words ask for quiet: it comes before, or with, what the words ask for
abbrev pub prints_always : Error → Bool
prints_always (error.Usage u) = true
prints_always (error.Config e) = true
prints_always (error.CurrentDir io) = true
prints_always (error.FilesystemIo path io) = is_environ_fault io
prints_always (error.Search x) = false
prints_always (error.Load path io) = false
prints_always error.MissingImportFile = false
prints_always (error.CircularImport current import) = false
prints_always (error.MissingModuleFile m) = false
prints_always (error.AmbiguousModuleFile m found) = false
prints_always error.Homedir = false
prints_always (error.Compile x) = false
prints_always (error.Const path line column) = false
prints_always (error.UnstableFeature x) = false
prints_always error.DotenvRequired = false
prints_always (error.Dotenv path line) = false
prints_always error.DotenvArgumentsRequireLists = false
prints_always (error.DotenvCommand command output_error) = false
prints_always (error.UnknownOverrides overrides) = false
prints_always (error.FunctionCall name) = false
prints_always error.NoRecipes = false
prints_always error.NoDefaultRecipe = false
prints_always (error.DefaultRecipeRequiresArguments recipe min_arguments) = false
prints_always (error.UnknownRecipe recipe) = false
prints_always (error.UnknownSubmodule path) = false
prints_always (error.ModuleAbsent m) = false
prints_always (error.RecipeDisabled recipe modules) = false
prints_always (error.AliasDisabled alias modules) = false
prints_always (error.ExpectedSubmoduleButFoundRecipe path) = false
prints_always (error.UnknownOption recipe switch) = false
prints_always (error.InvalidOption argument) = false
prints_always (error.FlagWithValue recipe switch) = false
prints_always (error.NonFinalOptionWithValue recipe switch) = false
prints_always (error.OptionMissingValue recipe switch) = false
prints_always (error.DuplicateOption recipe switch) = false
prints_always (error.PositionalArgumentCountMismatch recipe path parameters found) = false
prints_always (error.MissingOption recipe switch) = false
prints_always (error.ArgumentTooFewValues recipe parameter found min) = false
prints_always (error.ArgumentTooManyValues recipe parameter found max) = false
prints_always (error.ArgumentPatternMismatch argument recipe parameter pattern) = false
prints_always (error.EmptyListArgument recipe parameter) = false
prints_always (error.ExcessInvocations invocations) = false
prints_always (error.RecipeRequired subcommand) = false
prints_always (error.UnknownGroup group) = false
prints_always (error.EvalUnknownSubmodule submodule) = false
prints_always (error.EvalUnknownSubmoduleOrVariable name) = false
prints_always error.FormatCheckFoundDiff = false
prints_always error.NoChoosableRecipes = false
prints_always (error.ChooserInvoke shell arguments chooser io) = false
prints_always (error.ChooserRead chooser io) = false
prints_always (error.ChooserWrite chooser io) = false
prints_always (error.ChooserStatus chooser ending) = false
prints_always (error.EditorInvoke editor io) = false
prints_always (error.EditorStatus editor ending) = false
prints_always (error.CommandInvoke binary arguments io) = false
prints_always (error.CommandStatus binary arguments ending) = false
prints_always error.ClosureLimit = false
prints_always (error.InvalidShebang recipe shebang) = false
prints_always (error.Code recipe line code message) = false
prints_always (error.GuardCode recipe line code) = false
prints_always (error.Signal recipe line signal) = false
prints_always (error.Unknown recipe line) = false
prints_always (error.ShellIo recipe shell io) = false
prints_always (error.Script recipe command io) = false
prints_always (error.Shebang recipe command argument io) = false
prints_always (error.TempdirIo recipe io) = false
prints_always (error.CacheInputMissing path) = false
prints_always (error.CacheInputDirectory path) = false
prints_always (error.CacheOutputMissing recipe output) = false
prints_always (error.CacheEntryWrite path io) = false
prints_always (error.NotConfirmed recipe) = false
prints_always (error.GetConfirmation io) = false
prints_always (error.StdoutIo io) = false
prints_always (error.InitExists justfile) = false
prints_always (error.WriteJustfile justfile io) = false
prints_always (error.Interrupted x) = false
prints_always error.NoMemory = false

abbrev pub or_one : Option ℤ → ℤ
or_one (Some z) = z
or_one None = pos 1

-- the exit code of a run that ends with an error: 2 for faulty words, 125 for want of memory, else the error's own or 1
abbrev pub exit_code : Error → ℤ
exit_code (error.Usage u) = pos 2
exit_code error.NoMemory = pos 125
exit_code (error.Config x) = or_one (code_of (error.Config x))
exit_code (error.CurrentDir io) = or_one (code_of (error.CurrentDir io))
exit_code (error.Search x) = or_one (code_of (error.Search x))
exit_code (error.Load path io) = or_one (code_of (error.Load path io))
exit_code (error.FilesystemIo path io) = or_one (code_of (error.FilesystemIo path io))
exit_code error.MissingImportFile = or_one (code_of error.MissingImportFile)
exit_code (error.CircularImport current import) = or_one (code_of (error.CircularImport current import))
exit_code (error.MissingModuleFile m) = or_one (code_of (error.MissingModuleFile m))
exit_code (error.AmbiguousModuleFile m found) = or_one (code_of (error.AmbiguousModuleFile m found))
exit_code error.Homedir = or_one (code_of error.Homedir)
exit_code (error.Compile x) = or_one (code_of (error.Compile x))
exit_code (error.Const path line column) = or_one (code_of (error.Const path line column))
exit_code (error.UnstableFeature x) = or_one (code_of (error.UnstableFeature x))
exit_code error.DotenvRequired = or_one (code_of error.DotenvRequired)
exit_code (error.Dotenv path line) = or_one (code_of (error.Dotenv path line))
exit_code error.DotenvArgumentsRequireLists = or_one (code_of error.DotenvArgumentsRequireLists)
exit_code (error.DotenvCommand command output_error) = or_one (code_of (error.DotenvCommand command output_error))
exit_code (error.UnknownOverrides overrides) = or_one (code_of (error.UnknownOverrides overrides))
exit_code (error.FunctionCall name) = or_one (code_of (error.FunctionCall name))
exit_code error.NoRecipes = or_one (code_of error.NoRecipes)
exit_code error.NoDefaultRecipe = or_one (code_of error.NoDefaultRecipe)
exit_code (error.DefaultRecipeRequiresArguments recipe min_arguments) = or_one (code_of (error.DefaultRecipeRequiresArguments recipe min_arguments))
exit_code (error.UnknownRecipe recipe) = or_one (code_of (error.UnknownRecipe recipe))
exit_code (error.UnknownSubmodule path) = or_one (code_of (error.UnknownSubmodule path))
exit_code (error.ModuleAbsent m) = or_one (code_of (error.ModuleAbsent m))
exit_code (error.RecipeDisabled recipe modules) = or_one (code_of (error.RecipeDisabled recipe modules))
exit_code (error.AliasDisabled alias modules) = or_one (code_of (error.AliasDisabled alias modules))
exit_code (error.ExpectedSubmoduleButFoundRecipe path) = or_one (code_of (error.ExpectedSubmoduleButFoundRecipe path))
exit_code (error.UnknownOption recipe switch) = or_one (code_of (error.UnknownOption recipe switch))
exit_code (error.InvalidOption argument) = or_one (code_of (error.InvalidOption argument))
exit_code (error.FlagWithValue recipe switch) = or_one (code_of (error.FlagWithValue recipe switch))
exit_code (error.NonFinalOptionWithValue recipe switch) = or_one (code_of (error.NonFinalOptionWithValue recipe switch))
exit_code (error.OptionMissingValue recipe switch) = or_one (code_of (error.OptionMissingValue recipe switch))
exit_code (error.DuplicateOption recipe switch) = or_one (code_of (error.DuplicateOption recipe switch))
exit_code (error.PositionalArgumentCountMismatch recipe path parameters found) = or_one (code_of (error.PositionalArgumentCountMismatch recipe path parameters found))
exit_code (error.MissingOption recipe switch) = or_one (code_of (error.MissingOption recipe switch))
exit_code (error.ArgumentTooFewValues recipe parameter found min) = or_one (code_of (error.ArgumentTooFewValues recipe parameter found min))
exit_code (error.ArgumentTooManyValues recipe parameter found max) = or_one (code_of (error.ArgumentTooManyValues recipe parameter found max))
exit_code (error.ArgumentPatternMismatch argument recipe parameter pattern) = or_one (code_of (error.ArgumentPatternMismatch argument recipe parameter pattern))
exit_code (error.EmptyListArgument recipe parameter) = or_one (code_of (error.EmptyListArgument recipe parameter))
exit_code (error.ExcessInvocations invocations) = or_one (code_of (error.ExcessInvocations invocations))
exit_code (error.RecipeRequired subcommand) = or_one (code_of (error.RecipeRequired subcommand))
exit_code (error.UnknownGroup group) = or_one (code_of (error.UnknownGroup group))
exit_code (error.EvalUnknownSubmodule submodule) = or_one (code_of (error.EvalUnknownSubmodule submodule))
exit_code (error.EvalUnknownSubmoduleOrVariable name) = or_one (code_of (error.EvalUnknownSubmoduleOrVariable name))
exit_code error.FormatCheckFoundDiff = or_one (code_of error.FormatCheckFoundDiff)
exit_code error.NoChoosableRecipes = or_one (code_of error.NoChoosableRecipes)
exit_code (error.ChooserInvoke shell arguments chooser io) = or_one (code_of (error.ChooserInvoke shell arguments chooser io))
exit_code (error.ChooserRead chooser io) = or_one (code_of (error.ChooserRead chooser io))
exit_code (error.ChooserWrite chooser io) = or_one (code_of (error.ChooserWrite chooser io))
exit_code (error.ChooserStatus chooser ending) = or_one (code_of (error.ChooserStatus chooser ending))
exit_code (error.EditorInvoke editor io) = or_one (code_of (error.EditorInvoke editor io))
exit_code (error.EditorStatus editor ending) = or_one (code_of (error.EditorStatus editor ending))
exit_code (error.CommandInvoke binary arguments io) = or_one (code_of (error.CommandInvoke binary arguments io))
exit_code (error.CommandStatus binary arguments ending) = or_one (code_of (error.CommandStatus binary arguments ending))
exit_code error.ClosureLimit = or_one (code_of error.ClosureLimit)
exit_code (error.InvalidShebang recipe shebang) = or_one (code_of (error.InvalidShebang recipe shebang))
exit_code (error.Code recipe line code message) = or_one (code_of (error.Code recipe line code message))
exit_code (error.GuardCode recipe line code) = or_one (code_of (error.GuardCode recipe line code))
exit_code (error.Signal recipe line signal) = or_one (code_of (error.Signal recipe line signal))
exit_code (error.Unknown recipe line) = or_one (code_of (error.Unknown recipe line))
exit_code (error.ShellIo recipe shell io) = or_one (code_of (error.ShellIo recipe shell io))
exit_code (error.Script recipe command io) = or_one (code_of (error.Script recipe command io))
exit_code (error.Shebang recipe command argument io) = or_one (code_of (error.Shebang recipe command argument io))
exit_code (error.TempdirIo recipe io) = or_one (code_of (error.TempdirIo recipe io))
exit_code (error.CacheInputMissing path) = or_one (code_of (error.CacheInputMissing path))
exit_code (error.CacheInputDirectory path) = or_one (code_of (error.CacheInputDirectory path))
exit_code (error.CacheOutputMissing recipe output) = or_one (code_of (error.CacheOutputMissing recipe output))
exit_code (error.CacheEntryWrite path io) = or_one (code_of (error.CacheEntryWrite path io))
exit_code (error.NotConfirmed recipe) = or_one (code_of (error.NotConfirmed recipe))
exit_code (error.GetConfirmation io) = or_one (code_of (error.GetConfirmation io))
exit_code (error.StdoutIo io) = or_one (code_of (error.StdoutIo io))
exit_code (error.InitExists justfile) = or_one (code_of (error.InitExists justfile))
exit_code (error.WriteJustfile justfile io) = or_one (code_of (error.WriteJustfile justfile io))
exit_code (error.Interrupted x) = or_one (code_of (error.Interrupted x))
