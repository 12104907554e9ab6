-- The tables of names, and what they have to hold.
use Rattle.std.specs.Prelude.{◌≡◌, ℕ, List, [], ◌∷◌, ◌++◌, map, Option, Some}
use Rattle.std.specs.Ordering.{nat_cmp, ordering_then}
use Rattle.std.specs.Cmp.Lexicographic.{slice_cmp}
use Rattle.std.specs.BTreeMap.{get_by}
use Rattle.just_lang_layout.specs.declared.layout.File.{File}
use Rattle.just_lang_layout.specs.declared.layout.Layout.{Layout}
use Rattle.just_lang_layout.specs.declared.layout.Module.{Module}
use Rattle.just_lang_layout.specs.Items.{items_of_module}
use Rattle.just_lang_spots.specs.Entries.{entries, IsIndex}
use Rattle.just_lang_spots.specs.Standing.{Wins}
use Rattle.just_lang_spots.specs.Winners.{wins_in}
use Rattle.just_lang_names.specs.declared.children.Children.{Children}
use Rattle.just_lang_names.specs.declared.paths.Paths.{Paths}
use Rattle.just_lang_names.specs.declared.names.ModuleNames.{ModuleNames}
use Rattle.just_lang_names.specs.declared.names.Names.{Names}
use Rattle.just_lang_names.specs.Lookup.{module_at}
use Rattle.just_lang_names.specs.HashedPlaces.{IsHashedIndex}
use Rattle.just_lang_names.specs.Standing.{standing_recipe_items, standing_variable_items, absent_items}

-- ---- the names of a module

pub record IsModuleNames (wins : Wins) (files : List File) (m : Module) (names : ModuleNames) : Type 0 where
  pub items_are : entries names.items.items ≡ items_of_module files m
  pub recipes_are : entries names.recipes.items ≡ standing_recipe_items wins files m
  pub recipe_places_are : IsHashedIndex (standing_recipe_items wins files m) names.recipe_places
  pub variables_are : entries names.variables.items ≡ standing_variable_items wins files m
  pub variable_places_are : IsIndex (standing_variable_items wins files m) names.variable_places
  pub absent_places_are : IsIndex (absent_items files m) names.absent_places

-- each of the tables is that of the module at its place
abbrev pub AreModuleNames : Wins → List File → List Module → List ModuleNames → Type 0
AreModuleNames wins files [] [] = Unit {0}
AreModuleNames wins files [] (n ∷ ns) = ⊥
AreModuleNames wins files (m ∷ ms) [] = ⊥
AreModuleNames wins files (m ∷ ms) (n ∷ ns) = IsModuleNames wins files m n × AreModuleNames wins files ms ns

-- ---- modules by their paths and by their names

-- the number that a table has for a path
abbrev pub number_in : Paths → List (List ℕ) → Option ℕ
number_in paths path = get_by (λ k. slice_cmp (slice_cmp nat_cmp) path k.now) paths.numbers

-- it has for each path the number of the module of that path
abbrev pub ArePaths : List Module → Paths → Type 0
ArePaths modules paths = (path : List (List ℕ)) → number_in paths path ≡ module_at modules path

-- the number that a table has for a module and a name
abbrev pub child_in : Children → ℕ → List ℕ → Option ℕ
child_in children outer name = get_by (λ k. ordering_then (nat_cmp outer k.0) (slice_cmp nat_cmp name k.1.now)) children.numbers

-- it has for each module, under the number of its path, and each name the number of the module of that name in it
abbrev pub AreChildren : List Module → Children → Type 0
AreChildren modules children =
    (path : List (List ℕ)) (outer : ℕ) → module_at modules path ≡ Some outer → (name : List ℕ) → child_in children outer name ≡ module_at modules (path ++ name ∷ [])

-- for each module the number of its path
abbrev pub own_numbers : List Module → List (Option ℕ)
own_numbers modules = map (λ (m : Module). module_at modules m.path.components) modules

-- ---- all of them

abbrev pub layout_of : Names → Layout
layout_of names = names.layout.now

abbrev pub wins_of : Names → Wins
wins_of names = wins_in names.winners.now

pub record AreNames (names : Names) : Type 0 where
  pub modules_are : AreModuleNames (wins_of names) (layout_of names).files (layout_of names).modules names.modules.items
  pub paths_are : ArePaths (layout_of names).modules names.paths
  pub numbers_are : names.numbers.items ≡ own_numbers (layout_of names).modules
  pub children_are : AreChildren (layout_of names).modules names.children
