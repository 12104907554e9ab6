-- What names come to in a module.
use Rattle.std.specs.Prelude.{ℕ, ◌-◌, ◌||◌, Bool, true, false, if◌then◌else◌, List, [], ◌∷◌, ◌++◌, length, find, slice_get, Option, Some, None, is_some, Ok, Err, bytes_eq}
use Rattle.std.specs.List.{list_any}
use Rattle.std.specs.Option.{option_map}
use Rattle.just_path_text.specs.Environ.{or_else}
use Rattle.just_lang_types.specs.declared.recipe.Modulepath.{Modulepath}
use Rattle.just_lang_types.specs.declared.recipe.Recipe.{Recipe}
use Rattle.just_lang_types.specs.declared.scope.Alias.{Alias}
use Rattle.just_lang_types.specs.declared.scope.Disabled.{Disabled}
use Rattle.just_lang_types.specs.declared.project.Justfile.{Justfile, out-Justfile}
use Rattle.just_lang_types.specs.declared.project.LangError.{LangError}
use Rattle.just_lang_types.specs.declared.project.LangError.TheVariants as error
use Rattle.just_lang_types.specs.Keys.{same_path}
use Rattle.just_eval_closure.specs.Answers.{Answer}
use Rattle.just_lang_types.specs.Modules.{path_of, recipes_of, modules_of, Located, recipe_at}
use Rattle.just_eval_words.specs.Paths.{Word, joined_path}

-- what a name comes to
pub data Target : Type 0 where
  to_module : Justfile → Target
  to_recipe : Located → Target

-- ---- lookups by name

abbrev pub is_named : List ℕ → Option (List ℕ) → Bool
is_named name None = false
is_named name (Some last) = bytes_eq last name

-- a module has the last name of its path
abbrev pub has_name : List ℕ → Justfile → Bool
has_name name j = is_named name (slice_get (path_of j).components (length (path_of j).components - 1))

abbrev pub submodule : Justfile → List ℕ → Option Justfile
submodule j name = find (λ m. has_name name m) (modules_of j)

abbrev pub alias_at : List Alias → List ℕ → Option Alias
alias_at all name = find (λ a. bytes_eq a.name name) all

abbrev pub disabled_at : List Disabled → List ℕ → Option Disabled
disabled_at all name = find (λ d. bytes_eq d.name name) all

abbrev pub recipe_in : Justfile → List ℕ → Option Recipe
recipe_in j name = find (λ r. bytes_eq r.name name) (recipes_of j)

abbrev pub in_module : Justfile → Option Recipe → Option Located
in_module j r = option_map (λ x. record { parent = j; recipe = x }) r

abbrev pub is_absent : Justfile → List ℕ → Bool
is_absent j name = list_any (λ m. bytes_eq m name) (out-Justfile j).absent_modules

-- a recipe or an alias of one has that name, whether it can be run or not: the recipes hold those that can't be run too
abbrev pub names_recipe : Justfile → List ℕ → Bool
names_recipe j name =
    is_some (recipe_in j name) || (is_some (alias_at (out-Justfile j).recipe_aliases name) || is_some (disabled_at (out-Justfile j).disabled_aliases name))

-- ---- the last name of a word

-- a module, an absent module, a recipe, an alias, in this order: by what has the name of each. What can't be run comes first,
-- since the recipes hold that too.
abbrev pub target_among : List ℕ → Word → Option Justfile → Bool → Option Disabled → Option Located → Option Disabled → Option Located → Answer Target
target_among name word (Some m) absent no_recipe recipe no_alias aliased = Ok (Target.to_module m)
target_among name word None true no_recipe recipe no_alias aliased = Err (error.ModuleAbsent name)
target_among name word None false (Some d) recipe no_alias aliased = Err (error.RecipeDisabled name d.modules)
target_among name word None false None (Some l) no_alias aliased = Ok (Target.to_recipe l)
target_among name word None false None None (Some d) aliased = Err (error.AliasDisabled name d.modules)
target_among name word None false None None None (Some l) = Ok (Target.to_recipe l)
target_among name word None false None None None None = Err (error.UnknownRecipe word)

-- ---- a name in front of `::`

-- why it is no module's
abbrev pub no_module : Justfile → List ℕ → LangError
no_module j name =
    if is_absent j name then error.ModuleAbsent name
    else (if names_recipe j name then error.ExpectedSubmoduleButFoundRecipe (joined_path ((path_of j).components ++ name ∷ []))
    else error.UnknownSubmodule (joined_path ((path_of j).components ++ name ∷ [])))

abbrev pub within : {A : Type 0} → Option Justfile → (Justfile → Answer A) → LangError → Answer A
within None inside e = Err e
within (Some m) inside e = inside m

-- ---- with the modules of a project

module _ (modules : List Justfile) where
  -- the module of a path from the root
  abbrev pub module_at : Modulepath → Option Justfile
  module_at path = find (λ m. same_path (path_of m) path) modules

  abbrev pub aliased_module : Option Alias → Option Justfile
  aliased_module None = None
  aliased_module (Some a) = module_at a.target

  -- the module of that name, also by an alias
  abbrev pub module_named : Justfile → List ℕ → Option Justfile
  module_named j name = or_else (submodule j name) (aliased_module (alias_at (out-Justfile j).module_aliases name))

  abbrev pub aliased_recipe : Option Alias → Option Located
  aliased_recipe None = None
  aliased_recipe (Some a) = recipe_at modules a.target

  abbrev pub last_target : Justfile → List ℕ → Word → Answer Target
  last_target j name word =
      target_among name word (module_named j name) (is_absent j name) (disabled_at (out-Justfile j).disabled_recipes name) (in_module j (recipe_in j name)) (disabled_at (out-Justfile j).disabled_aliases name) (aliased_recipe (alias_at (out-Justfile j).recipe_aliases name))

  -- ---- words

  -- what the parts of a word come to in a module
  abbrev pub target_of : List Word → Word → Justfile → Answer Target
  target_of [] word j = Err (error.UnknownRecipe word)
  target_of (name ∷ []) word j = last_target j name word
  target_of (name ∷ other ∷ names) word j = within (module_named j name) (λ m. target_of (other ∷ names) word m) (no_module j name)
