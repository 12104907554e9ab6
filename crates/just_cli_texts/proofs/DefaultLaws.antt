-- The listing that words ask for which name a module.
use Rattle.std.proofs.Common.{◌≡◌, inl, inr, ℕ, Bool, List, [], ◌∷◌, Option, Some, None, Result, Ok, Err, IfOk, IfErr, refl, ap, ◌∙◌, subst}
use Rattle.std.specs.Option.{option_and_then}
use Rattle.just_lang_types.specs.declared.project.Justfile.{Justfile}
use Rattle.just_lang_types.specs.Modules.{AreModules}
use Rattle.just_lang_types.proofs.Nesting.{same_modules}
use Rattle.just_lang_layout.specs.Paths.{Pairs}
use Rattle.just_config.specs.declared.config.Config.{Config}
use Rattle.just_config.specs.ModulePaths.{module_path}
use Rattle.just_print_commands.specs.Projects.{Parts}
use Rattle.just_exec.specs.declared.error.Error.{Error}
use Rattle.just_cli_plan.specs.Own.{OrMemory}
use Rattle.just_cli_plan.specs.Pairs.{Answers}
use Rattle.just_cli_texts.specs.declared.printed.Printed.{Printed}
use Rattle.just_cli_texts.specs.Defaults.{names_if, listed_by_default, ListsLaid}
use Rattle.just_cli_texts.specs.Laid.{LaidSources, ArePartsOf}
use Rattle.just_cli_texts.specs.Prints.{as_printed}
use Rattle.just_cli_texts.specs.Targets.{Lists}

-- ---- the names that words are

module _ (given : Bool) (root : Justfile) (words : List (List ℕ)) where
  -- the modules that were found are one list with any other
  pub names_in_all : (ms : List Justfile) (names : List (List ℕ)) (found : Option (List (List ℕ))) → AreModules (root ∷ []) ms → Some names ≡ module_path words → found ≡ names_if given ms root names
      → (modules : List Justfile) → AreModules (root ∷ []) modules → found ≡ listed_by_default given modules root words
  names_in_all ms names found are there is modules order =
      is ∙ (ap (λ (js : List Justfile). names_if given js root names) (same_modules (root ∷ []) ms modules are order) ∙ ap (λ (o : Option (List (List ℕ))). option_and_then (names_if given modules root) o) there)

  pub no_names : None ≡ module_path words → (modules : List Justfile) → AreModules (root ∷ []) modules → None ≡ listed_by_default given modules root words
  no_names none modules order = ap (λ (o : Option (List (List ℕ))). option_and_then (names_if given modules root) o) none

-- ---- the listing

module _ (environ : Pairs) (c : Config) (l : LaidSources) (names : List (List ℕ)) (p q : Parts) (are : ArePartsOf environ l p) (same : q ≡ p) where
  lists_it : (x : Result (List ℕ) Error) → Lists c q names x → ListsLaid environ c l names (as_printed x)
  lists_it x lists = (p, are, (x, subst (λ (y : Parts). Lists c y names x) same lists, refl))

  pub lists_so : (x : Result (List ℕ) Error) (r : Result Printed Error) → IfOk x (λ t. Lists c q names (Ok t)) → IfErr x (OrMemory (λ e. Lists c q names (Err e))) → r ≡ as_printed x → Answers (ListsLaid environ c l names) r
  lists_so (Ok text) r lists refused is = rw is (lists_it (Ok text) lists)
  lists_so (Err e) r listed (inl wants) is = rw is (inl wants)
  lists_so (Err e) r listed (inr lists) is = rw is (inr (lists_it (Err e) lists))
