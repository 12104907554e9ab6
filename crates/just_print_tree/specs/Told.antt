-- The recipes of a project, each beside what is written of it.
use Rattle.std.specs.Prelude.{ℕ, Bool, not, List, [], ◌∷◌, filter, filter_map, find, slice_get, Option, None, option_map, bytes_eq}
use Rattle.std.specs.List.{enumerate_from, flat_map, list_any}
use Rattle.just_lang_syntax.specs.declared.ast.AstItem.{AstItem}
use Rattle.just_lang_syntax.specs.declared.ast.AstItem.TheVariants as item
use Rattle.just_lang_syntax.specs.declared.ast.AstRecipe.{AstRecipe}
use Rattle.just_lang_types.specs.declared.project.Justfile.{Justfile, out-Justfile}
use Rattle.just_lang_types.specs.declared.recipe.Modulepath.{Modulepath}
use Rattle.just_lang_types.specs.declared.recipe.Recipe.{Recipe}
use Rattle.just_lang_types.specs.declared.scope.Disabled.{Disabled}
use Rattle.just_lang_types.specs.Keys.{same_path}
use Rattle.just_lang_types.specs.Modules.{recipes_of}
use Rattle.just_lang_layout.specs.declared.layout.File.{File}
use Rattle.just_lang_layout.specs.declared.layout.Module.{Module}
use Rattle.just_lang_layout.specs.Items.{items_of_module}
use Rattle.just_lang_spots.specs.Standing.{Wins}
use Rattle.just_lang_justfile.specs.Standing.{standing_recipes}

-- a recipe of a justfile, and what is written of it in the file of that number
pub record ToldRecipe : Type 0 where
  pub recipe : Recipe
  pub file : ℕ
  pub written : AstRecipe

-- the recipe that an item is, by the recipe at its place among those of the justfile
abbrev pub told_at : List Recipe → ℕ × (ℕ × AstItem) → Option ToldRecipe
told_at recipes (place, (file, item.Recipe x)) = option_map (λ (r : Recipe). record { recipe = r; file = file; written = x }) (slice_get recipes place)
told_at recipes (place, (file, item.Blank)) = None
told_at recipes (place, (file, item.Comment text)) = None
told_at recipes (place, (file, item.Alias name target comment)) = None
told_at recipes (place, (file, item.Import optional path comment)) = None
told_at recipes (place, (file, item.Module attributes optional name path comment)) = None
told_at recipes (place, (file, item.Assignment export name value comment)) = None
told_at recipes (place, (file, item.Unexport name comment)) = None
told_at recipes (place, (file, item.Setting name value comment)) = None

-- recipes beside the items that stand, which are theirs in the same order
abbrev pub told_among : List Recipe → List (ℕ × AstItem) → List ToldRecipe
told_among recipes standing = filter_map (told_at recipes) (enumerate_from 0 standing)

-- the recipes of a module's justfile
abbrev pub told_of : Wins → List File → Module → Justfile → List ToldRecipe
told_of wins files m j = told_among (recipes_of j) (standing_recipes wins (items_of_module files m))

-- those of each module
abbrev pub told_each : Wins → List File → List Module → List Justfile → List (List ToldRecipe)
told_each wins files [] js = []
told_each wins files (m ∷ ms) [] = []
told_each wins files (m ∷ ms) (j ∷ js) = told_of wins files m j ∷ told_each wins files ms js

-- the recipe of a path among those of modules
abbrev pub found_told : List (List ToldRecipe) → Modulepath → Option ToldRecipe
found_told all path = find (λ (x : ToldRecipe). same_path x.recipe.path path) (flat_map (λ (xs : List ToldRecipe). xs) all)

-- ---- those that can be run

abbrev pub is_disabled : List Disabled → List ℕ → Bool
is_disabled disabled name = list_any (λ (d : Disabled). bytes_eq d.name name) disabled

abbrev pub enabled : Justfile → List ToldRecipe → List ToldRecipe
enabled j xs = filter (λ (x : ToldRecipe). not (is_disabled (out-Justfile j).disabled_recipes x.recipe.name)) xs
