-- What has a name, case by case.
use Rattle.std.proofs.Common.{◌≡◌, ℕ, true, false, find, List, [], ◌∷◌, ◌++◌, length, Option, Some, None, sym, ap, ◌∙◌}
use Rattle.std.specs.Prelude.{if◌then◌else◌, ◌-◌, slice_get, bytes_eq}
use Rattle.just_path_text.specs.Environ.{or_else}
use Rattle.just_lang_types.specs.declared.recipe.Recipe.{Recipe}
use Rattle.just_lang_types.specs.declared.scope.Alias.{Alias}
use Rattle.just_lang_types.specs.declared.project.Justfile.{Justfile, out-Justfile}
use Rattle.just_lang_types.specs.declared.project.LangError.TheVariants as error
use Rattle.just_lang_types.specs.Modules.{path_of, recipes_of, Located, recipe_at}
use Rattle.just_eval_words.specs.Paths.{joined_path}
use Rattle.just_eval_words.specs.Names.{is_named, has_name, submodule, alias_at, is_absent, names_recipe, module_at, aliased_module, module_named, aliased_recipe, no_module}
use Rattle.just_eval_words.specs.Targets.{is_default, first_of, default_in}

module _ (j : Justfile) (name : List ℕ) where
  pub nameless : slice_get (path_of j).components (length (path_of j).components - 1) ≡ None → has_name name j ≡ false
  nameless h = ap (is_named name) h

  pub named : (last : List ℕ) → slice_get (path_of j).components (length (path_of j).components - 1) ≡ Some last → has_name name j ≡ bytes_eq last name
  named last h = ap (is_named name) h

module _ (ms : List Justfile) (j : Justfile) (name : List ℕ) where
  abbrev alias_there : Option Alias
  alias_there = alias_at (out-Justfile j).module_aliases name

  pub own_module : (m : Justfile) → submodule j name ≡ Some m → module_named ms j name ≡ Some m
  own_module m h = ap (λ o. or_else o (aliased_module ms alias_there)) h

  pub no_alias : submodule j name ≡ None → alias_at (out-Justfile j).module_aliases name ≡ None → module_named ms j name ≡ None
  no_alias h k = ap (λ o. or_else o (aliased_module ms alias_there)) h ∙ ap (aliased_module ms) k

  pub by_alias : (a : Alias) (o : Option Justfile) → submodule j name ≡ None → alias_at (out-Justfile j).module_aliases name ≡ Some a → module_at ms a.target ≡ o → module_named ms j name ≡ o
  by_alias a o h k l = ap (λ x. or_else x (aliased_module ms alias_there)) h ∙ ap (aliased_module ms) k ∙ l

  pub no_recipe : alias_at (out-Justfile j).recipe_aliases name ≡ None → aliased_recipe ms (alias_at (out-Justfile j).recipe_aliases name) ≡ None
  no_recipe h = ap (aliased_recipe ms) h

  pub recipe_by_alias : (a : Alias) (o : Option Located) → alias_at (out-Justfile j).recipe_aliases name ≡ Some a → recipe_at ms a.target ≡ o → aliased_recipe ms (alias_at (out-Justfile j).recipe_aliases name) ≡ o
  recipe_by_alias a o h k = ap (aliased_recipe ms) h ∙ k

  -- ---- why there is no module

  pub module_absent : is_absent j name ≡ true → no_module j name ≡ error.ModuleAbsent name
  module_absent h =
      ap (λ b. if b then error.ModuleAbsent name else (if names_recipe j name then error.ExpectedSubmoduleButFoundRecipe (joined_path ((path_of j).components ++ name ∷ [])) else error.UnknownSubmodule (joined_path ((path_of j).components ++ name ∷ [])))) h

  module _ (path : List ℕ) (is : path ≡ joined_path ((path_of j).components ++ name ∷ [])) (h : is_absent j name ≡ false) where
    present : no_module j name ≡ (if names_recipe j name then error.ExpectedSubmoduleButFoundRecipe path else error.UnknownSubmodule path)
    present =
        ap (λ b. if b then error.ModuleAbsent name else (if names_recipe j name then error.ExpectedSubmoduleButFoundRecipe (joined_path ((path_of j).components ++ name ∷ [])) else error.UnknownSubmodule (joined_path ((path_of j).components ++ name ∷ [])))) h ∙ ap (λ p. if names_recipe j name then error.ExpectedSubmoduleButFoundRecipe p else error.UnknownSubmodule p) (sym is)

    pub recipe_found : names_recipe j name ≡ true → no_module j name ≡ error.ExpectedSubmoduleButFoundRecipe path
    recipe_found k = present ∙ ap (λ b. if b then error.ExpectedSubmoduleButFoundRecipe path else error.UnknownSubmodule path) k

    pub nothing_found : names_recipe j name ≡ false → no_module j name ≡ error.UnknownSubmodule path
    nothing_found k = present ∙ ap (λ b. if b then error.ExpectedSubmoduleButFoundRecipe path else error.UnknownSubmodule path) k

-- ---- default recipes

module _ (j : Justfile) where
  pub marked : (r : Recipe) → find is_default (recipes_of j) ≡ Some r → default_in j ≡ Some r
  marked r h = ap (λ o. or_else o (first_of (recipes_of j))) h

  pub first_recipe : (r : Recipe) (rs : List Recipe) → find is_default (recipes_of j) ≡ None → recipes_of j ≡ r ∷ rs → default_in j ≡ Some r
  first_recipe r rs h k = ap (λ o. or_else o (first_of (recipes_of j))) h ∙ ap first_of k

  pub none_there : find is_default (recipes_of j) ≡ None → recipes_of j ≡ [] → default_in j ≡ None
  none_there h k = ap (λ o. or_else o (first_of (recipes_of j))) h ∙ ap first_of k
