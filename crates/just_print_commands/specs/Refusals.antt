-- Why `--list`, `--show` and `--usage` print nothing.
use Rattle.std.specs.Prelude.{◌≡◌, ◌≢◌, ℕ, List, Some, Ok, Err}
use Rattle.just_lang_types.specs.declared.project.Justfile.{Justfile}
use Rattle.just_lang_types.specs.declared.project.LangError.TheVariants as lang_error
use Rattle.just_eval_words.specs.Names.{Target}
use Rattle.just_print_lists.specs.declared.listed.ListedModule.{ListedModule}
use Rattle.just_print_entries.specs.declared.lists.ListError.{ListError}
use Rattle.just_print_entries.specs.declared.lists.ListError.TheVariants as listing_error
use Rattle.just_print_entries.specs.declared.options.ListOptions.{ListOptions}
use Rattle.just_print_entries.specs.Listings.{unknown_group}
use Rattle.just_print_commands.specs.declared.error.ShowError.{ShowError}
use Rattle.just_print_commands.specs.declared.error.ShowError.TheVariants as show_error
use Rattle.just_print_commands.specs.declared.error.ListTextError.{ListTextError}
use Rattle.just_print_commands.specs.declared.error.ListTextError.TheVariants as list_error
use Rattle.just_print_commands.specs.Projects.{Parts}
use Rattle.just_print_commands.specs.Texts.{inner_of, named_of, IsListedAt}

-- why no recipe is shown: the path ends in a module, where a recipe is required; or it leads nowhere
abbrev pub IsUnshown : Parts → List (List ℕ) → ShowError → Type 0
IsUnshown p names show_error.Required = (m : Justfile) × (named_of p names ≡ Ok (Target.to_module m))
IsUnshown p names (show_error.Path e) = e ≢ lang_error.NoMemory → named_of p names ≡ Err e
IsUnshown p names show_error.NoMemory = Unit {0}

-- why no module is listed: the path leads nowhere; or a group was given that the module doesn't have
abbrev pub IsUnlisted : Parts → ListOptions → List (List ℕ) → ListTextError → Type 0
IsUnlisted p o names (list_error.Path e) = e ≢ lang_error.NoMemory → inner_of p names ≡ Err e
IsUnlisted p o names (list_error.UnknownGroup group) = (l : ListedModule) × IsListedAt p names l × (unknown_group o.groups.now l ≡ Some group)
IsUnlisted p o names list_error.NoMemory = Unit {0}

-- the error of a listing as that of the command
abbrev pub error_of_listing : ListError → ListTextError
error_of_listing (listing_error.UnknownGroup group) = list_error.UnknownGroup group
error_of_listing listing_error.NoMemory = list_error.NoMemory
