-- The recipes and the variables that stand in a module.
use Rattle.std.specs.Prelude.{ℕ, List, filter, filter_map}
use Rattle.just_lang_syntax.specs.declared.ast.AstItem.{AstItem}
use Rattle.just_lang_syntax.specs.declared.ast.AstRecipe.{AstRecipe}
use Rattle.just_lang_layout.specs.declared.layout.File.{File}
use Rattle.just_lang_layout.specs.declared.layout.Module.{Module}
use Rattle.just_lang_layout.specs.Items.{item_at, items_of_module}
use Rattle.just_lang_spots.specs.Items.{item_name, is_recipe_here, recipe_in, is_assignment, Variable, variable_in}
use Rattle.just_lang_spots.specs.Standing.{Wins, standing}

-- ---- recipes

-- the recipes of a module that this platform has
abbrev pub recipe_items : List File → Module → List (ℕ × AstItem)
recipe_items files m = filter is_recipe_here (items_of_module files m)

-- those that stand, as items and as recipes
abbrev pub standing_recipe_items : Wins → List File → Module → List (ℕ × AstItem)
standing_recipe_items wins files m = standing item_name wins (recipe_items files m)

abbrev pub standing_recipes : Wins → List File → Module → List (ℕ × AstRecipe)
standing_recipes wins files m = filter_map recipe_in (standing_recipe_items wins files m)

-- ---- variables

abbrev pub variable_items : List File → Module → List (ℕ × AstItem)
variable_items files m = filter is_assignment (items_of_module files m)

-- those that stand, as items and as variables
abbrev pub standing_variable_items : Wins → List File → Module → List (ℕ × AstItem)
standing_variable_items wins files m = standing item_name wins (variable_items files m)

abbrev pub standing_variables : Wins → List File → Module → List (ℕ × Variable)
standing_variables wins files m = filter_map variable_in (standing_variable_items wins files m)

-- ---- modules that may be missing

-- the `mod`s whose modules aren't there
abbrev pub absent_items : List File → Module → List (ℕ × AstItem)
absent_items files m = filter_map (item_at files) m.absent
