-- What the code's targets, aliases and dependencies are.
use Rattle.std.specs.Prelude.{◌≡◌, ℕ, List, slice_get, Option, Some, None}
use Rattle.std.specs.List.{enumerate_from, flat_map}
use Rattle.std.specs.Option.{option_and_then}
use Rattle.just_lang_syntax.specs.declared.ast.AstItem.{AstItem}
use Rattle.just_lang_syntax.specs.declared.ast.AstItem.TheVariants as item
use Rattle.just_lang_syntax.specs.declared.ast.AstRecipe.{AstRecipe}
use Rattle.just_lang_syntax.specs.declared.ast.Name.{Name}
use Rattle.just_lang_layout.specs.declared.layout.Layout.{Layout}
use Rattle.just_lang_spots.specs.Entries.{entries}
use Rattle.just_lang_spots.specs.Standing.{Wins}
use Rattle.just_lang_names.specs.declared.names.ModuleNames.{ModuleNames}
use Rattle.just_lang_names.specs.declared.names.Names.{Names}
use Rattle.just_lang_names.specs.declared.target.Target as code
use Rattle.just_lang_names.specs.declared.target.Target.TheVariants as variant
use Rattle.just_lang_names.specs.declared.target.FoundRecipe.{FoundRecipe}
use Rattle.just_lang_names.specs.declared.target.PathKind.{PathKind}
use Rattle.just_lang_names.specs.declared.target.PathKind.TheVariants.{Dependency, Alias}
use Rattle.just_lang_names.specs.declared.listed.ListedAlias.{ListedAlias}
use Rattle.just_lang_names.specs.declared.listed.ListedDependency.{ListedDependency}
use Rattle.just_lang_names.specs.HashedPlaces.{hashed_place}
use Rattle.just_lang_names.specs.Lookup.{Target, Found_recipe, Found_module, Found_absent, Found_nothing, dependency_end, alias_end, target_with}
use Rattle.just_lang_names.specs.TargetSpots.{AliasIn, DependencyIn, aliases_in, dependencies_in}

abbrev pub unknown : Name → Target
unknown name = Found_nothing name

abbrev pub target : code.Target → Target
target (variant.Recipe number place file recipe) = Found_recipe number file recipe.now
target (variant.Module number) = Found_module number
target variant.Absent = Found_absent
target (variant.Unknown name) = Found_nothing name.now

-- the recipe at a place of the table of the module of that number
abbrev pub recipe_at : Names → ℕ → ℕ → Option (ℕ × AstItem)
recipe_at names number place = option_and_then (λ (n : ModuleNames). slice_get (entries n.recipes.items) place) (slice_get names.modules.items number)

-- the recipe of that name by its place in a table
abbrev pub recipe_by : ModuleNames → List ℕ → Option (ℕ × AstItem)
recipe_by n q = option_and_then (slice_get (entries n.recipes.items)) (hashed_place n.recipe_places q)

-- a recipe with the number of its file
abbrev pub found_recipe : FoundRecipe → ℕ × AstRecipe
found_recipe x = (x.file, x.recipe.now)

-- a recipe is the item at that place
abbrev pub IsOf : ℕ → ℕ × AstItem → Option FoundRecipe → Type 0
IsOf place x None = Unit {0}
IsOf place x (Some r) = (r.place ≡ place) × (r.file ≡ x.0) × (x.1 ≡ item.Recipe r.recipe.now)

-- a recipe is the one at its place in the table
abbrev pub IsFoundIn : ModuleNames → Option FoundRecipe → Type 0
IsFoundIn n None = Unit {0}
IsFoundIn n (Some r) = slice_get (entries n.recipes.items) r.place ≡ Some (r.file, item.Recipe r.recipe.now)

-- and that of a module
abbrev pub IsFound : Names → ℕ → Option FoundRecipe → Type 0
IsFound names number None = Unit {0}
IsFound names number (Some x) = recipe_at names number x.place ≡ Some (x.file, item.Recipe x.recipe.now)

-- a recipe that is found stands at its place in the table of its module
abbrev pub IsPlaced : Names → code.Target → Type 0
IsPlaced names (variant.Recipe number place file recipe) = recipe_at names number place ≡ Some (file, item.Recipe recipe.now)
IsPlaced names (variant.Module number) = Unit {0}
IsPlaced names variant.Absent = Unit {0}
IsPlaced names (variant.Unknown name) = Unit {0}

abbrev pub end_for : PathKind → Wins → Layout → ℕ → Name → Target
end_for Dependency wins layout = dependency_end wins layout
end_for Alias wins layout = alias_end wins layout

-- what names come to in a module, as a dependency's path or as an alias's
abbrev pub target_for : PathKind → Wins → Layout → ℕ → List Name → Target
target_for kind wins layout m names = target_with (end_for kind wins layout) layout names m

abbrev pub alias_in : ListedAlias → AliasIn
alias_in x = record { number = x.number; file = x.file; target = x.target.now }

abbrev pub dependency_of : ListedDependency → DependencyIn
dependency_of x = record { number = x.number; file = x.file; dependency = x.dependency.now }

-- those of the tables of modules
abbrev pub aliases_of : List ModuleNames → List AliasIn
aliases_of ns = flat_map (λ (x : ℕ × ModuleNames). flat_map (aliases_in x.0) (entries x.1.items.items)) (enumerate_from 0 ns)

abbrev pub dependencies_of : List ModuleNames → List DependencyIn
dependencies_of ns = flat_map (λ (x : ℕ × ModuleNames). flat_map (dependencies_in x.0) (entries x.1.recipes.items)) (enumerate_from 0 ns)
