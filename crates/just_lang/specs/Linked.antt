-- What the paths of a layout come to, and what can't be run.
use Rattle.std.specs.Prelude.{ℕ, ◌+◌, List, slice_get, Option, Some, None, option_map}
use Rattle.just_lang_types.specs.declared.recipe.Modulepath.{Modulepath}
use Rattle.just_lang_layout.specs.declared.layout.Layout.{Layout}
use Rattle.just_lang_layout.specs.declared.layout.Module.{Module}
use Rattle.just_lang_spots.specs.Standing.{Wins}
use Rattle.just_lang_names.specs.Lookup.{Target, Found_recipe, Found_module, Found_absent, Found_nothing, dependency_target, alias_target}
use Rattle.just_lang.specs.Cycles.{recipes_before}
use Rattle.just_lang.specs.Disabling.{modules_of_recipe, modules_of_alias}
use Rattle.just_lang_shapes.specs.Recipes.{path_within}
use Rattle.just_lang_justfile.specs.declared.linker.AliasTarget.{AliasTarget}
use Rattle.just_lang_justfile.specs.declared.linker.AliasTarget.TheVariants as linked
use Rattle.just_lang_justfile.specs.Links.{Links}

-- the path from the root of a name in the module of that number
abbrev pub path_in : Layout → ℕ → List ℕ → Option Modulepath
path_in layout m name = option_map (λ (x : Module). path_within x.path name) (slice_get layout.modules m)

-- that of the module itself
abbrev pub path_to : Layout → ℕ → Option Modulepath
path_to layout m = option_map (λ (x : Module). x.path) (slice_get layout.modules m)

-- the path of the recipe that a path comes to
abbrev pub recipe_path : Layout → Target → Option Modulepath
recipe_path layout (Found_recipe m file r) = path_in layout m r.name.text
recipe_path layout (Found_module m) = None
recipe_path layout Found_absent = None
recipe_path layout (Found_nothing name) = None

abbrev pub as_recipe : Option Modulepath → AliasTarget
as_recipe None = linked.Nothing
as_recipe (Some path) = linked.Recipe path

abbrev pub as_module : Option Modulepath → AliasTarget
as_module None = linked.Nothing
as_module (Some path) = linked.Module path

-- what an alias's path comes to
abbrev pub linked_target : Layout → Target → AliasTarget
linked_target layout (Found_recipe m file r) = as_recipe (path_in layout m r.name.text)
linked_target layout (Found_module m) = as_module (path_to layout m)
linked_target layout Found_absent = linked.Nothing
linked_target layout (Found_nothing name) = linked.Nothing

-- what paths come to by the names of a layout, and what can't be run, where `causes` has for each recipe the one for whose own modules it can't
abbrev pub links_of : Wins → Layout → List (Option ℕ) → Links
links_of wins layout causes = record {
  dependency_path = λ m path. recipe_path layout (dependency_target wins layout m path);
  alias_target = λ m path. linked_target layout (alias_target wins layout m path);
  modules_of_recipe = λ m place. modules_of_recipe wins layout causes (recipes_before wins layout m + place);
  modules_of_alias = λ m path. modules_of_alias wins layout causes m path;
}
