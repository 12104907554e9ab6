-- What `--list`, `--show` and `--usage` print of what the words behind them lead to; or why they print nothing.
use Rattle.std.specs.Prelude.{◌≡◌, ◌≢◌, ℕ, List, [], Result, Ok, Err, codes}
use Rattle.std.specs.Option.{unwrap_or}
use Rattle.just_config.specs.declared.config.Config.{Config}
use Rattle.just_config.specs.ModulePaths.{module_path}
use Rattle.just_print_entries.specs.declared.options.ListOptions.{ListOptions}
use Rattle.just_print_commands.specs.declared.error.ListTextError.{ListTextError}
use Rattle.just_print_commands.specs.declared.error.ListTextError.TheVariants as list_error
use Rattle.just_print_commands.specs.declared.error.ShowError.{ShowError}
use Rattle.just_print_commands.specs.declared.error.ShowError.TheVariants as show_error
use Rattle.just_print_commands.specs.Projects.{Parts}
use Rattle.just_print_commands.specs.Refusals.{IsUnlisted, IsUnshown}
use Rattle.just_print_commands.specs.Texts.{IsListOf, IsShownOf, IsUsageOf}
use Rattle.just_exec.specs.Refusals.{error_of_lang}
use Rattle.just_exec.specs.declared.error.Error.{Error}
use Rattle.just_exec.specs.declared.error.Error.TheVariants as error
use Rattle.just_cli_texts.specs.ListOptions.{AreOptionsOf}

-- the names of a module path in the words of a command
abbrev pub names_of : List (List ℕ) → List (List ℕ)
names_of words = unwrap_or (module_path words) []

-- ---- listings

-- the error of a listing that is refused
abbrev pub error_of_list : ListTextError → Error
error_of_list (list_error.Path e) = error_of_lang e
error_of_list (list_error.UnknownGroup group) = error.UnknownGroup group
error_of_list list_error.NoMemory = error.NoMemory

-- an error is that of a listing that is refused; want of memory isn't told so
pub record UnlistedBy (p : Parts) (o : ListOptions) (names : List (List ℕ)) (e : Error) : Type 0 where
  pub why : ListTextError
  pub unlisted : IsUnlisted p o names why
  pub error_is : e ≡ error_of_list why
  pub known : e ≢ error.NoMemory

-- the listing of the module that names lead to, or why it is refused
abbrev pub ListsBy : Parts → ListOptions → List (List ℕ) → Result (List ℕ) Error → Type 0
ListsBy p o names (Ok text) = IsListOf p o names text
ListsBy p o names (Err e) = UnlistedBy p o names e

-- the same by the options of a configuration
abbrev pub Lists : Config → Parts → List (List ℕ) → Result (List ℕ) Error → Type 0
Lists c p names r = (o : ListOptions) × AreOptionsOf c o × ListsBy p o names r

-- ---- recipes

-- the error of a command of that name which shows no recipe
abbrev pub error_of_show : List ℕ → ShowError → Error
error_of_show name show_error.Required = error.RecipeRequired name
error_of_show name (show_error.Path e) = error_of_lang e
error_of_show name show_error.NoMemory = error.NoMemory

-- an error is that of such a command; want of memory isn't told so
pub record UnshownBy (p : Parts) (name : List ℕ) (names : List (List ℕ)) (e : Error) : Type 0 where
  pub why : ShowError
  pub unshown : IsUnshown p names why
  pub error_is : e ≡ error_of_show name why
  pub known : e ≢ error.NoMemory

-- the recipe that names lead to as its file has it, and how it is used
abbrev pub Shows : Config → Parts → List (List ℕ) → Result (List ℕ) Error → Type 0
Shows c p names (Ok text) = IsShownOf p c.indentation names text
Shows c p names (Err e) = UnshownBy p (codes "show") names e

abbrev pub Uses : Parts → List (List ℕ) → Result (List ℕ) Error → Type 0
Uses p names (Ok text) = IsUsageOf p names text
Uses p names (Err e) = UnshownBy p (codes "usage") names e
