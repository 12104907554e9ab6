-- Links that are those of the names of a layout.
use Rattle.std.specs.Prelude.{◌≡◌, ℕ, List, slice_get, Option, Some, None}
use Rattle.std.specs.Option.{option_map}
use Rattle.just_lang_syntax.specs.declared.ast.AstRecipe.{AstRecipe}
use Rattle.just_lang_syntax.specs.declared.ast.Name.{Name}
use Rattle.just_lang_types.specs.declared.recipe.Modulepath.{Modulepath}
use Rattle.just_lang_layout.specs.declared.layout.Layout.{Layout}
use Rattle.just_lang_layout.specs.declared.layout.Module.{Module}
use Rattle.just_lang_spots.specs.Standing.{Wins}
use Rattle.just_lang_names.specs.Lookup.{Target, Found_recipe, Found_module, Found_absent, Found_nothing, dependency_target, alias_target}
use Rattle.just_lang_shapes.specs.Recipes.{path_within}
use Rattle.just_lang_justfile.specs.declared.linker.AliasTarget.{AliasTarget}
use Rattle.just_lang_justfile.specs.declared.linker.AliasTarget.TheVariants as target
use Rattle.just_lang_justfile.specs.Links.{Links}

module _ (layout : Layout) where
  -- the path of the module of that number
  abbrev pub module_path : ℕ → Option Modulepath
  module_path number = option_map (λ (m : Module). m.path) (slice_get layout.modules number)

  -- the path of a recipe of the module of that number
  abbrev pub recipe_path : ℕ → AstRecipe → Option Modulepath
  recipe_path number r = option_map (λ (p : Modulepath). path_within p r.name.text) (module_path number)

  -- the path of the recipe that a dependency's path comes to
  abbrev pub path_of_target : Target → Option Modulepath
  path_of_target (Found_recipe number file r) = recipe_path number r
  path_of_target (Found_module number) = None
  path_of_target Found_absent = None
  path_of_target (Found_nothing name) = None

  abbrev pub recipe_or_nothing : Option Modulepath → AliasTarget
  recipe_or_nothing None = target.Nothing
  recipe_or_nothing (Some p) = target.Recipe p

  abbrev pub module_or_nothing : Option Modulepath → AliasTarget
  module_or_nothing None = target.Nothing
  module_or_nothing (Some p) = target.Module p

  -- what an alias's path comes to
  abbrev pub alias_of_target : Target → AliasTarget
  alias_of_target (Found_recipe number file r) = recipe_or_nothing (recipe_path number r)
  alias_of_target (Found_module number) = module_or_nothing (module_path number)
  alias_of_target Found_absent = target.Nothing
  alias_of_target (Found_nothing name) = target.Nothing

  -- the links are what the names of the layout come to
  pub record AreLinked (wins : Wins) (links : Links) : Type 0 where
    pub dependencies : (number : ℕ) (path : List Name) → links.dependency_path number path ≡ path_of_target (dependency_target wins layout number path)
    pub aliases : (number : ℕ) (path : List Name) → links.alias_target number path ≡ alias_of_target (alias_target wins layout number path)
