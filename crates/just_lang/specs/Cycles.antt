-- Variables and recipes that lie on a cycle.
use Rattle.std.specs.Prelude.{◌≡◌, ℕ, suc, ◌+◌, false, List, [], ◌∷◌, ◌++◌, length, take, map, filter_map, slice_get, Option, Some, None, option_map, Contains}
use Rattle.std.specs.Option.{option_map_or}
use Rattle.just_lang_syntax.specs.declared.ast.AstDependency.{AstDependency}
use Rattle.just_lang_syntax.specs.declared.ast.AstRecipe.{AstRecipe}
use Rattle.just_lang_syntax.specs.declared.ast.Name.{Name}
use Rattle.just_lang_spots.specs.Graph.{IsOnCycle}
use Rattle.just_lang_layout.specs.declared.layout.File.{File}
use Rattle.just_lang_layout.specs.declared.layout.Layout.{Layout}
use Rattle.just_lang_layout.specs.declared.layout.Module.{Module}
use Rattle.just_lang_spots.specs.declared.spot.Spot.{Spot}
use Rattle.just_lang_spots.specs.Entries.{last_place}
use Rattle.just_lang_names.specs.Lookup.{Target, Found_recipe, Found_module, Found_absent, Found_nothing, dependency_target}
use Rattle.just_lang_names.specs.NamesUsed.{names_of_expr}
use Rattle.just_lang_spots.specs.Places.{name_spot}
use Rattle.just_lang_spots.specs.Spots.{comes_before}
use Rattle.just_lang_spots.specs.Items.{Variable}
use Rattle.just_lang_spots.specs.Standing.{Wins}
use Rattle.just_lang_names.specs.Standing.{standing_variables, standing_recipes}

-- ---- the first of some places

-- the first place of a set; none where the set is empty
unfoldable pub IsFirstSpot : (Spot → Type 0) → Option Spot → Type 0
IsFirstSpot P None = (s : Spot) → P s → ⊥
IsFirstSpot P (Some s) = P s × ((other : Spot) → P other → comes_before other s ≡ false)

-- the place of a node that lies on a cycle
abbrev pub IsSpotOnCycle : List (List ℕ) → List Spot → Spot → Type 0
IsSpotOnCycle edges spots s = (n : ℕ) × IsOnCycle edges n × (slice_get spots n ≡ Some s)

-- ---- variables

abbrev pub variable_name : Variable → List ℕ
variable_name v = v.name.text

-- the variables that each one's value names, by their places
abbrev pub variables_used : List (ℕ × Variable) → ℕ × Variable → List ℕ
variables_used xs x = filter_map (λ (n : Name). last_place variable_name n.text xs) (names_of_expr x.1.value)

abbrev pub variable_graph : List (ℕ × Variable) → List (List ℕ)
variable_graph xs = map (variables_used xs) xs

abbrev pub variable_spot : ℕ × Variable → Spot
variable_spot x = name_spot x.0 x.1.name

-- the place of one of these variables whose value leads back to it
abbrev pub IsCircularAmong : List (ℕ × Variable) → Spot → Type 0
IsCircularAmong xs s = IsSpotOnCycle (variable_graph xs) (map variable_spot xs) s

-- the place of a variable that stands in a module and whose value leads back to it, by variables of that module
abbrev pub IsCircularVariable : Wins → Layout → Spot → Type 0
IsCircularVariable wins layout s = (m : Module) × Contains layout.modules m × IsCircularAmong (standing_variables wins layout.files m) s

-- ---- recipes

-- a recipe that stands, with the numbers of its module and of its file
abbrev pub Standing : Type 0
Standing = ℕ × ℕ × AstRecipe

abbrev pub in_module : ℕ → ℕ × AstRecipe → Standing
in_module n x = (n, x.0, x.1)

-- the recipes that stand in modules, where the first of these has that number
abbrev pub recipes_from : Wins → List File → ℕ → List Module → List Standing
recipes_from wins files n [] = []
recipes_from wins files n (m ∷ ms) = map (in_module n) (standing_recipes wins files m) ++ recipes_from wins files (suc n) ms

-- the recipes that stand in any module, those of earlier modules first
abbrev pub all_recipes : Wins → Layout → List Standing
all_recipes wins layout = recipes_from wins layout.files 0 layout.modules

-- how many stand in the modules before the one of that number
abbrev pub recipes_before : Wins → Layout → ℕ → ℕ
recipes_before wins layout m = length (recipes_from wins layout.files 0 (take m layout.modules))

abbrev pub recipe_name : AstRecipe → List ℕ
recipe_name r = r.name.text

abbrev pub recipes_at : Wins → Layout → ℕ → List (ℕ × AstRecipe)
recipes_at wins layout m = option_map_or (standing_recipes wins layout.files) (slice_get layout.modules m) []

-- the place of the recipe of that module and name among all
abbrev pub place_of_recipe : Wins → Layout → ℕ → List ℕ → Option ℕ
place_of_recipe wins layout m name = option_map (λ k. recipes_before wins layout m + k) (last_place recipe_name name (recipes_at wins layout m))

abbrev pub place_of_target : Wins → Layout → Target → Option ℕ
place_of_target wins layout (Found_recipe m file r) = place_of_recipe wins layout m r.name.text
place_of_target wins layout (Found_module m) = None
place_of_target wins layout Found_absent = None
place_of_target wins layout (Found_nothing name) = None

-- what a recipe depends on, before it and behind it
abbrev pub dependencies_of : AstRecipe → List AstDependency
dependencies_of r = r.priors ++ r.subsequents

-- the place of the recipe that a dependency of a recipe in a module comes to
abbrev pub place_of_dependency : Wins → Layout → ℕ → AstDependency → Option ℕ
place_of_dependency wins layout m d = place_of_target wins layout (dependency_target wins layout m d.path)

-- the recipes that each one depends on, by their places
abbrev pub recipes_needed : Wins → Layout → Standing → List ℕ
recipes_needed wins layout x = filter_map (place_of_dependency wins layout x.0) (dependencies_of x.2)

abbrev pub recipe_graph : Wins → Layout → List (List ℕ)
recipe_graph wins layout = map (recipes_needed wins layout) (all_recipes wins layout)

abbrev pub recipe_spot : Standing → Spot
recipe_spot x = name_spot x.1 x.2.name

-- the place of a recipe that stands and depends on itself, straight or through others
abbrev pub IsCircularRecipe : Wins → Layout → Spot → Type 0
IsCircularRecipe wins layout s = IsSpotOnCycle (recipe_graph wins layout) (map recipe_spot (all_recipes wins layout)) s
