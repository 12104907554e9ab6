-- The modules of a justfile, and the recipes that paths from the root lead to.
use Rattle.std.specs.Prelude.{List, [], ◌∷◌, ◌++◌, map, Option, find}
use Rattle.std.specs.List.{flat_map}
use Rattle.just_lang_types.specs.declared.recipe.Modulepath.{Modulepath}
use Rattle.just_lang_types.specs.declared.recipe.Recipe.{Recipe}
use Rattle.just_lang_types.specs.declared.scope.Assignment.{Assignment}
use Rattle.just_lang_types.specs.declared.settings.Settings.{Settings}
use Rattle.just_lang_types.specs.declared.project.Justfile.{Justfile, out-Justfile}
use Rattle.just_lang_types.specs.Keys.{same_path}

abbrev pub path_of : Justfile → Modulepath
path_of j = (out-Justfile j).module_path

abbrev pub recipes_of : Justfile → List Recipe
recipes_of j = (out-Justfile j).recipes

abbrev pub assignments_of : Justfile → List Assignment
assignments_of j = (out-Justfile j).assignments

abbrev pub settings_of : Justfile → Settings
settings_of j = (out-Justfile j).settings

abbrev pub modules_of : Justfile → List Justfile
modules_of j = (out-Justfile j).modules

-- The modules `all` are these and those within them, in the order of the sources, each before those within it.
pub data AreModules : List Justfile → List Justfile → Type 0 where
  none : AreModules [] []
  first : (j : Justfile) (js all : List Justfile) → AreModules (modules_of j ++ js) all → AreModules (j ∷ js) (j ∷ all)

-- a recipe, and the module that it stands in
pub record Located : Type 0 where
  pub parent : Justfile
  pub recipe : Recipe

-- the recipes of some modules, each with its module, in the order of the sources
abbrev pub located : List Justfile → List Located
located modules = flat_map (λ j. map (λ r. record { parent = j; recipe = r }) (recipes_of j)) modules

-- the recipe of that path among these: the first
abbrev pub located_at : List Located → Modulepath → Option Located
located_at all path = find (λ l. same_path l.recipe.path path) all

-- the recipe of a path from the root
abbrev pub recipe_at : List Justfile → Modulepath → Option Located
recipe_at modules path = located_at (located modules) path
