-- What the code keeps of variables and recipes that lead to one another.
use Rattle.std.specs.Prelude.{◌≡◌, ℕ, ◌<◌, ◌≤◌, List, [], map, length, filter_map, get_or, Option, Some, None}
use Rattle.std.specs.Option.{option_map}
use Rattle.just_lang_syntax.specs.declared.ast.AstDependency.{AstDependency}
use Rattle.just_lang_syntax.specs.declared.ast.AstItem.{AstItem}
use Rattle.just_lang_syntax.specs.declared.ast.AstItem.TheVariants as item
use Rattle.just_lang_syntax.specs.declared.ast.Name.{Name}
use Rattle.just_lang_layout.specs.declared.layout.Layout.{Layout}
use Rattle.just_lang_spots.specs.declared.index.Index.{Index}
use Rattle.just_lang_spots.specs.declared.spot.Spot.{Spot}
use Rattle.just_lang_spots.specs.Entries.{place_in}
use Rattle.just_lang_spots.specs.Items.{recipe_in}
use Rattle.just_lang_spots.specs.Places.{name_spot}
use Rattle.just_lang_spots.specs.Standing.{Wins}
use Rattle.just_lang_names.specs.Names.{AreNames, layout_of, wins_of}
use Rattle.just_lang_names.specs.NamesUsed.{names_of_expr}
use Rattle.just_lang.specs.declared.recipe.Recipes.{Recipes}
use Rattle.just_lang.specs.declared.recipe.StandingRecipe as code
use Rattle.just_lang.specs.Cycles.{Standing, in_module, all_recipes, place_of_dependency, recipe_graph, recipes_before}

-- ---- variables

-- the places that an index has for some names
abbrev pub places_in : Index → List Name → List ℕ
places_in index names = filter_map (λ (n : Name). place_in index n.text) names

-- the names in the value of an item that is an assignment
abbrev pub names_in_value : AstItem → List Name
names_in_value (item.Assignment export name value comment) = names_of_expr value
names_in_value item.Blank = []
names_in_value (item.Comment text) = []
names_in_value (item.Alias name target comment) = []
names_in_value (item.Import optional path comment) = []
names_in_value (item.Module attributes optional name path comment) = []
names_in_value (item.Unexport name comment) = []
names_in_value (item.Setting name value comment) = []
names_in_value (item.Recipe r) = []

-- the places of the variables that it names
abbrev pub uses_in : Index → ℕ × AstItem → List ℕ
uses_in index x = places_in index (names_in_value x.1)

abbrev pub variable_spot_in : ℕ × AstItem → Option Spot
variable_spot_in (n, item.Assignment export name value comment) = Some (name_spot n name)
variable_spot_in (n, item.Blank) = None
variable_spot_in (n, item.Comment text) = None
variable_spot_in (n, item.Alias name target comment) = None
variable_spot_in (n, item.Import optional path comment) = None
variable_spot_in (n, item.Module attributes optional name path comment) = None
variable_spot_in (n, item.Unexport name comment) = None
variable_spot_in (n, item.Setting name value comment) = None
variable_spot_in (n, item.Recipe r) = None

-- ---- recipes

abbrev pub standing : code.StandingRecipe → Standing
standing x = (x.number, x.file, x.recipe.now)

abbrev pub standings : List code.StandingRecipe → List Standing
standings xs = map standing xs

-- the recipe that an item of a module is
abbrev pub standing_in : ℕ → ℕ × AstItem → Option Standing
standing_in n x = option_map (in_module n) (recipe_in x)

-- for each module how many recipes stand in those before it; there may be more numbers
pub record AreBefore (wins : Wins) (layout : Layout) (before : List ℕ) : Type 0 where
  pub size : length layout.modules ≤ length before
  pub each : (m : ℕ) → m < length layout.modules → get_or before m 0 ≡ recipes_before wins layout m

pub record AreStanding (wins : Wins) (layout : Layout) (list : List code.StandingRecipe) (before : List ℕ) : Type 0 where
  pub list_is : standings list ≡ all_recipes wins layout
  pub before_are : AreBefore wins layout before

-- the places of the recipes that some dependencies of a module come to
abbrev pub needed_by : Wins → Layout → ℕ → List AstDependency → List ℕ
needed_by wins layout m ds = filter_map (place_of_dependency wins layout m) ds

pub record AreRecipes (recipes : Recipes) : Type 0 where
  pub names_are : AreNames recipes.names.now
  pub standing_are : AreStanding (wins_of recipes.names.now) (layout_of recipes.names.now) recipes.list.items recipes.before.items
  pub edges_are : recipes.edges.items ≡ recipe_graph (wins_of recipes.names.now) (layout_of recipes.names.now)
