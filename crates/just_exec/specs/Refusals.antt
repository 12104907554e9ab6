-- The refusals of lower layers as errors of a run; want of memory is told as itself.
use Rattle.just_config_words.specs.declared.usage.Usage.{Usage}
use Rattle.just_config_words.specs.declared.usage.UsageKind.{UsageKind}
use Rattle.just_config_words.specs.declared.usage.UsageKind.TheVariants as kind
use Rattle.just_config.specs.declared.config_error.ConfigError.{ConfigError}
use Rattle.just_config.specs.declared.config_error.ConfigError.TheVariants as config_error
use Rattle.just_lang_types.specs.declared.project.LangError.{LangError}
use Rattle.just_lang_types.specs.declared.project.LangError.TheVariants as lang
use Rattle.just_env.specs.declared.search_error.SearchError.{SearchError}
use Rattle.just_env.specs.declared.search_error.SearchError.TheVariants as search
use Rattle.just_env.specs.declared.env_error.EnvError.{EnvError}
use Rattle.just_env.specs.declared.env_error.EnvError.TheVariants as env
use Rattle.just_path.specs.declared.host.Miss.TheVariants as miss
use Rattle.just_host_record.specs.declared.entry.HostFault.TheVariants as fault
use Rattle.just_cache.specs.declared.cache_error.CacheError.{CacheError}
use Rattle.just_cache.specs.declared.cache_error.CacheError.TheVariants as cache
use Rattle.just_exec.specs.declared.error.Error.{Error}
use Rattle.just_exec.specs.declared.error.Error.TheVariants as error

-- of words
abbrev pub usage_of_kind : UsageKind → Usage → Error
usage_of_kind kind.NoMemory u = error.NoMemory
usage_of_kind kind.Unknown u = error.Usage u
usage_of_kind kind.LeftOut u = error.Usage u
usage_of_kind kind.MissingValue u = error.Usage u
usage_of_kind kind.UnexpectedValue u = error.Usage u
usage_of_kind kind.BadValue u = error.Usage u
usage_of_kind kind.Repeated u = error.Usage u
usage_of_kind kind.Conflict u = error.Usage u
usage_of_kind kind.Requires u = error.Usage u

abbrev pub error_of_usage : Usage → Error
error_of_usage u = usage_of_kind u.kind u

-- of a configuration
abbrev pub error_of_config : ConfigError → Error
error_of_config config_error.NoMemory = error.NoMemory
error_of_config (config_error.OverridePath path) = error.Config (config_error.OverridePath path)
error_of_config (config_error.Internal message) = error.Config (config_error.Internal message)
error_of_config config_error.SearchDirConflict = error.Config config_error.SearchDirConflict
error_of_config (config_error.ModulePath path) = error.Config (config_error.ModulePath path)
error_of_config config_error.RequestParse = error.Config config_error.RequestParse
error_of_config (config_error.SubcommandArguments subcommand arguments) = error.Config (config_error.SubcommandArguments subcommand arguments)
error_of_config (config_error.SubcommandOverrides subcommand overrides) = error.Config (config_error.SubcommandOverrides subcommand overrides)
error_of_config (config_error.SubcommandOverridesAndArguments subcommand overrides arguments) = error.Config (config_error.SubcommandOverridesAndArguments subcommand overrides arguments)

-- of a project, or of a request of its recipes
abbrev pub error_of_lang : LangError → Error
error_of_lang (lang.Compile c) = error.Compile c
error_of_lang (lang.Const path line column) = error.Const path line column
error_of_lang lang.MissingImportFile = error.MissingImportFile
error_of_lang (lang.CircularImport current import) = error.CircularImport current import
error_of_lang (lang.MissingModuleFile m) = error.MissingModuleFile m
error_of_lang (lang.AmbiguousModuleFile m found) = error.AmbiguousModuleFile m found
error_of_lang lang.Homedir = error.Homedir
error_of_lang (lang.UnknownOverrides overrides) = error.UnknownOverrides overrides
error_of_lang (lang.FunctionCall name) = error.FunctionCall name
error_of_lang lang.NoRecipes = error.NoRecipes
error_of_lang lang.NoDefaultRecipe = error.NoDefaultRecipe
error_of_lang (lang.DefaultRecipeRequiresArguments recipe least) = error.DefaultRecipeRequiresArguments recipe least
error_of_lang (lang.UnknownRecipe recipe) = error.UnknownRecipe recipe
error_of_lang (lang.UnknownSubmodule path) = error.UnknownSubmodule path
error_of_lang (lang.ModuleAbsent m) = error.ModuleAbsent m
error_of_lang (lang.RecipeDisabled recipe modules) = error.RecipeDisabled recipe modules
error_of_lang (lang.AliasDisabled alias modules) = error.AliasDisabled alias modules
error_of_lang (lang.ExpectedSubmoduleButFoundRecipe path) = error.ExpectedSubmoduleButFoundRecipe path
error_of_lang (lang.UnknownOption recipe switch) = error.UnknownOption recipe switch
error_of_lang (lang.InvalidOption argument) = error.InvalidOption argument
error_of_lang (lang.FlagWithValue recipe switch) = error.FlagWithValue recipe switch
error_of_lang (lang.NonFinalOptionWithValue recipe switch) = error.NonFinalOptionWithValue recipe switch
error_of_lang (lang.OptionMissingValue recipe switch) = error.OptionMissingValue recipe switch
error_of_lang (lang.DuplicateOption recipe switch) = error.DuplicateOption recipe switch
error_of_lang (lang.PositionalArgumentCountMismatch recipe path parameters found) = error.PositionalArgumentCountMismatch recipe path parameters found
error_of_lang (lang.MissingOption recipe switch) = error.MissingOption recipe switch
error_of_lang (lang.ArgumentTooFewValues recipe parameter found least) = error.ArgumentTooFewValues recipe parameter found least
error_of_lang (lang.ArgumentTooManyValues recipe parameter found most) = error.ArgumentTooManyValues recipe parameter found most
error_of_lang (lang.ArgumentPatternMismatch argument recipe parameter pattern) = error.ArgumentPatternMismatch argument recipe parameter pattern
error_of_lang (lang.EmptyListArgument recipe parameter) = error.EmptyListArgument recipe parameter
error_of_lang (lang.ExcessInvocations count) = error.ExcessInvocations count
error_of_lang lang.ClosureLimit = error.ClosureLimit
error_of_lang lang.NoMemory = error.NoMemory

-- of a search
abbrev pub error_of_search : SearchError → Error
error_of_search (search.FilesystemIo path io) = error.FilesystemIo path io
error_of_search (search.Load path io) = error.Load path io
error_of_search (search.Lang l) = error_of_lang l
error_of_search search.NoMemory = error.NoMemory
error_of_search search.GlobalJustfileInit = error.Search search.GlobalJustfileInit
error_of_search search.GlobalJustfileNotFound = error.Search search.GlobalJustfileNotFound
error_of_search search.InitWithJustfileFromStandardInput = error.Search search.InitWithJustfileFromStandardInput
error_of_search (search.JustfileHadNoParent path) = error.Search (search.JustfileHadNoParent path)
error_of_search (search.MultipleCandidates folder candidates) = error.Search (search.MultipleCandidates folder candidates)
error_of_search search.NotFound = error.Search search.NotFound
error_of_search (search.StdinIo io) = error.Search (search.StdinIo io)
error_of_search (search.TempdirIo io) = error.Search (search.TempdirIo io)

-- of dotenv files
abbrev pub error_of_env : EnvError → Error
error_of_env env.DotenvRequired = error.DotenvRequired
error_of_env (env.Dotenv path line) = error.Dotenv path line
error_of_env env.DotenvArgumentsRequireLists = error.DotenvArgumentsRequireLists
error_of_env (env.DotenvCommand command e) = error.DotenvCommand command e
error_of_env (env.Io io path) = error.FilesystemIo path io
error_of_env env.NoMemory = error.NoMemory

-- of a cache
abbrev pub error_of_cache : CacheError → Error
error_of_cache (cache.InputMissing path) = error.CacheInputMissing path
error_of_cache (cache.InputDirectory path) = error.CacheInputDirectory path
error_of_cache (cache.EntryRead path) = error.FilesystemIo path (fault.Missed miss.NotUtf8)
error_of_cache (cache.Io io path) = error.FilesystemIo path io
error_of_cache cache.NoMemory = error.NoMemory
