-- The listing that words ask for which name a module.
use Rattle.std.specs.Prelude.{◌≡◌, ℕ, ◌||◌, Bool, false, if◌then◌else◌, List, Option, Some, None, Result, Ok, Err}
use Rattle.std.specs.Option.{option_and_then}
use Rattle.just_lang_types.specs.declared.project.Justfile.{Justfile}
use Rattle.just_lang_types.specs.Modules.{settings_of}
use Rattle.just_lang_layout.specs.Paths.{Pairs}
use Rattle.just_eval_closure.specs.Answers.{Answer}
use Rattle.just_eval_words.specs.Commands.{inner_at}
use Rattle.just_config.specs.declared.config.Config.{Config}
use Rattle.just_config.specs.ModulePaths.{module_path}
use Rattle.just_print_commands.specs.Projects.{Parts}
use Rattle.just_exec.specs.declared.error.Error.{Error}
use Rattle.just_cli_texts.specs.declared.printed.Printed.{Printed}
use Rattle.just_cli_texts.specs.Laid.{LaidSources, ArePartsOf}
use Rattle.just_cli_texts.specs.Prints.{as_printed}
use Rattle.just_cli_texts.specs.Targets.{Lists}

-- whether names lead to a module that is listed by default, by the words or by its own setting
abbrev pub is_listed : Bool → Answer Justfile → Bool
is_listed given (Ok j) = given || (settings_of j).default_list
is_listed given (Err e) = false

abbrev pub names_if : Bool → List Justfile → Justfile → List (List ℕ) → Option (List (List ℕ))
names_if given modules root names = if is_listed given (inner_at modules names root) then Some names else None

-- the names of the module that is listed in the place of a run, if one is: words name it, or none name the root
abbrev pub listed_by_default : Bool → List Justfile → Justfile → List (List ℕ) → Option (List (List ℕ))
listed_by_default given modules root words = option_and_then (names_if given modules root) (module_path words)

-- the listing of the module of a justfile that names lead to, as a configuration lists it; or why it is refused
abbrev pub ListsLaid : Pairs → Config → LaidSources → List (List ℕ) → Result Printed Error → Type 0
ListsLaid environ c l names r = (p : Parts) × ArePartsOf environ l p × ((x : Result (List ℕ) Error) × Lists c p names x × (r ≡ as_printed x))
