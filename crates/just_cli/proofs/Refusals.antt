-- What words and arguments ask for, from what the readers of words and of a configuration ensure.
use Rattle.std.proofs.Common.{◌≡◌, ℕ, List, None, inl, inr, Ok, Err, refl, sym, ◌∙◌, ap}
use Rattle.just_path_text.specs.declared.environ.Environ.{Environ}
use Rattle.just_config_words.specs.declared.arguments.Arguments.{Arguments}
use Rattle.just_config_words.specs.declared.usage.Usage.{Usage}
use Rattle.just_config_words.specs.declared.usage.UsageKind.{UsageKind}
use Rattle.just_config_words.specs.declared.usage.UsageKind.TheVariants as usage
use Rattle.just_config_words.specs.Words.{IsUsage}
use Rattle.just_config.specs.declared.config.Config.{Config}
use Rattle.just_config.specs.declared.config_error.ConfigError.{ConfigError}
use Rattle.just_config.specs.declared.config_error.ConfigError.TheVariants as config_error
use Rattle.just_config.specs.Config.{refusal, config_of, IsRefusedBy}
use Rattle.just_exec.specs.Refusals.{usage_of_kind, error_of_usage, error_of_config}
use Rattle.just_exec.specs.declared.error.Error.{Error}
use Rattle.just_exec.specs.declared.error.Error.TheVariants as error
use Rattle.just_cli_plan.specs.Own.{OrMemory}
use Rattle.just_cli.specs.Words.{WordsRequest, FolderRequest, ConfigRequest, ReadsWords, Configures}

-- ---- words

kind_of_memory : (k : UsageKind) (u : Usage) (q : WordsRequest) (e : Error) → u.kind ≡ k → e ≡ usage_of_kind k u → IsUsage q.words q.environ.pairs u → OrMemory (λ x. ReadsWords q (Err x)) e
kind_of_memory usage.NoMemory u q e kind is why = inl is
kind_of_memory k u q e kind is (inl wants) = absurd (let same : k ≡ usage.NoMemory = sym kind ∙ wants in let no : ⊥ = cc in no)
kind_of_memory k u q e kind is (inr means) = inr (u, means, is)

-- words that are faulty
pub words_refused_by : (q : WordsRequest) (u : Usage) (e : Error) → IsUsage q.words q.environ.pairs u → e ≡ error_of_usage u → OrMemory (λ x. ReadsWords q (Err x)) e
words_refused_by q u e why is = kind_of_memory u.kind u q e refl is why

-- ---- arguments

-- the arguments that were given in a folder, and a configuration, with an environment
abbrev asked_in : Arguments → List ℕ → Environ → FolderRequest
asked_in a folder environ = record { arguments = a; environ = environ; folder = folder }

abbrev config_in : Config → Environ → ConfigRequest
config_in c environ = record { config = c; environ = environ }

-- a refusal of arguments, or want of memory, whatever the environment is
abbrev RefusesArguments : Arguments → List ℕ → Error → Type 0
RefusesArguments a folder e = OrMemory (λ x. (environ : Environ) → Configures (asked_in a folder environ) (Err x)) e

odd : (a : Arguments) (folder : List ℕ) (f : ConfigError) (e : Error) → (f ≡ config_error.NoMemory → ⊥) → IsRefusedBy a f → e ≡ error.Config f → RefusesArguments a folder e
odd a folder f e other (inl wanted) is = absurd (other wanted)
odd a folder f e other (inr why) is = inr (λ environ. (f, why, is))

-- arguments that give no configuration
pub arguments_refused : (a : Arguments) (folder : List ℕ) (f : ConfigError) (e : Error) → IsRefusedBy a f → e ≡ error_of_config f → OrMemory (λ x. (environ : Environ) → Configures (record { arguments = a; environ = environ; folder = folder }) (Err x)) e
arguments_refused a folder config_error.NoMemory e why is = inl is
arguments_refused a folder (config_error.OverridePath p) e why is = odd a folder (config_error.OverridePath p) e (λ same. let f : ⊥ = cc in f) why is
arguments_refused a folder (config_error.Internal m) e why is = odd a folder (config_error.Internal m) e (λ same. let f : ⊥ = cc in f) why is
arguments_refused a folder config_error.SearchDirConflict e why is = odd a folder config_error.SearchDirConflict e (λ same. let f : ⊥ = cc in f) why is
arguments_refused a folder (config_error.ModulePath p) e why is = odd a folder (config_error.ModulePath p) e (λ same. let f : ⊥ = cc in f) why is
arguments_refused a folder config_error.RequestParse e why is = odd a folder config_error.RequestParse e (λ same. let f : ⊥ = cc in f) why is
arguments_refused a folder (config_error.SubcommandArguments s l) e why is = odd a folder (config_error.SubcommandArguments s l) e (λ same. let f : ⊥ = cc in f) why is
arguments_refused a folder (config_error.SubcommandOverrides s o) e why is = odd a folder (config_error.SubcommandOverrides s o) e (λ same. let f : ⊥ = cc in f) why is
arguments_refused a folder (config_error.SubcommandOverridesAndArguments s o l) e why is = odd a folder (config_error.SubcommandOverridesAndArguments s o l) e (λ same. let f : ⊥ = cc in f) why is

-- arguments that give one
pub each_given : (a : Arguments) (folder : List ℕ) (c : Config) → (refusal a ≡ None) × (c ≡ config_of a folder)
    → (environ : Environ) → Configures (record { arguments = a; environ = environ; folder = folder }) (Ok (record { config = c; environ = environ }))
each_given a folder c gives environ = (gives.0, ap (λ x. config_in x environ) gives.1)
