-- The rules on what aliases and dependencies name.
use Rattle.std.specs.Prelude.{ℕ, ◌&&◌, ◌||◌, not, nat_le, Bool, true, false, List, [], ◌∷◌, ◌++◌, map, filter, length, Option}
use Rattle.std.specs.List.{enumerate_from, flat_map, list_any}
use Rattle.just_lang_syntax.specs.declared.ast.AstDependency.{AstDependency}
use Rattle.just_lang_syntax.specs.declared.ast.AstItem.{AstItem}
use Rattle.just_lang_syntax.specs.declared.ast.AstItem.TheVariants as item
use Rattle.just_lang_syntax.specs.declared.ast.AstParameter.{AstParameter}
use Rattle.just_lang_syntax.specs.declared.ast.AstRecipe.{AstRecipe}
use Rattle.just_lang_syntax.specs.declared.ast.Name.{Name}
pub use Rattle.just_lang_types.specs.ParameterKinds.{is_variadic}
use Rattle.just_lang_syntax.specs.declared.ast.StringLiteral.{StringLiteral}
use Rattle.just_lang_layout.specs.declared.layout.Layout.{Layout}
use Rattle.just_lang_layout.specs.declared.layout.Module.{Module}
use Rattle.just_lang_layout.specs.Items.{items_of_module}
use Rattle.just_lang_spots.specs.declared.spot.Spot.{Spot}
use Rattle.just_lang_spots.specs.Places.{name_spot}
use Rattle.just_lang_spots.specs.Spots.{spot_where}
use Rattle.just_lang_spots.specs.Standing.{Wins}
use Rattle.just_lang_types.specs.Options.{is_option}
use Rattle.just_lang_rules.specs.ParameterSpots.{wants_value}
use Rattle.just_lang_names.specs.Lookup.{Target, Found_recipe, Found_module, Found_absent, Found_nothing, dependency_target, alias_target}
use Rattle.just_lang_names.specs.Standing.{standing_recipe_items}

-- ---- aliases and dependencies

-- an alias's path, with the numbers of its module and of its file
pub record AliasIn : Type 0 where
  pub number : ℕ
  pub file : ℕ
  pub target : List Name

-- a dependency, with those of its recipe
pub record DependencyIn : Type 0 where
  pub number : ℕ
  pub file : ℕ
  pub dependency : AstDependency

abbrev pub aliases_in : ℕ → ℕ × AstItem → List AliasIn
aliases_in m (n, item.Alias name target comment) = record { number = m; file = n; target = target } ∷ []
aliases_in m (n, item.Recipe r) = []
aliases_in m (n, item.Assignment export name value comment) = []
aliases_in m (n, item.Blank) = []
aliases_in m (n, item.Comment text) = []
aliases_in m (n, item.Import optional path comment) = []
aliases_in m (n, item.Module attributes optional name path comment) = []
aliases_in m (n, item.Unexport name comment) = []
aliases_in m (n, item.Setting name value comment) = []

abbrev pub dependency_in : ℕ → ℕ → AstDependency → DependencyIn
dependency_in m n d = record { number = m; file = n; dependency = d }

abbrev pub dependencies_in : ℕ → ℕ × AstItem → List DependencyIn
dependencies_in m (n, item.Recipe r) = map (dependency_in m n) (r.priors ++ r.subsequents)
dependencies_in m (n, item.Alias name target comment) = []
dependencies_in m (n, item.Assignment export name value comment) = []
dependencies_in m (n, item.Blank) = []
dependencies_in m (n, item.Comment text) = []
dependencies_in m (n, item.Import optional path comment) = []
dependencies_in m (n, item.Module attributes optional name path comment) = []
dependencies_in m (n, item.Unexport name comment) = []
dependencies_in m (n, item.Setting name value comment) = []

-- the aliases of all modules
abbrev pub all_aliases : Layout → List AliasIn
all_aliases layout = flat_map (λ (x : ℕ × Module). flat_map (aliases_in x.0) (items_of_module layout.files x.1)) (enumerate_from 0 layout.modules)

-- the dependencies of the recipes that stand in any module
abbrev pub all_dependencies : Wins → Layout → List DependencyIn
all_dependencies wins layout =
    flat_map (λ (x : ℕ × Module). flat_map (dependencies_in x.0) (standing_recipe_items wins layout.files x.1)) (enumerate_from 0 layout.modules)

-- ---- names that aren't known

abbrev pub unknown_of : ℕ → Target → List Spot
unknown_of file (Found_recipe m n r) = []
unknown_of file (Found_module m) = []
unknown_of file Found_absent = []
unknown_of file (Found_nothing name) = name_spot file name ∷ []

-- the first name of an alias's path that isn't known
abbrev pub unknown_alias_target : Wins → Layout → AliasIn → List Spot
unknown_alias_target wins layout a = unknown_of a.file (alias_target wins layout a.number a.target)

-- and that of a dependency's
abbrev pub unknown_dependency : Wins → Layout → DependencyIn → List Spot
unknown_dependency wins layout d = unknown_of d.file (dependency_target wins layout d.number d.dependency.path)

abbrev pub unknown_alias_target_spots : Wins → Layout → List Spot
unknown_alias_target_spots wins layout = flat_map (unknown_alias_target wins layout) (all_aliases layout)

abbrev pub unknown_dependency_spots : Wins → Layout → List Spot
unknown_dependency_spots wins layout = flat_map (unknown_dependency wins layout) (all_dependencies wins layout)

-- ---- arguments and options

-- the place of the last name
abbrev pub last_spot : ℕ → List Name → List Spot
last_spot file [] = []
last_spot file (n ∷ []) = name_spot file n ∷ []
last_spot file (n ∷ n' ∷ names) = last_spot file (n' ∷ names)

abbrev pub last_spot_where : Bool → ℕ → List Name → List Spot
last_spot_where true file path = last_spot file path
last_spot_where false file path = []

-- the last name, where a dependency is on a recipe that is so
abbrev pub where_recipe : (AstRecipe → Bool) → ℕ → List Name → Target → List Spot
where_recipe is_so file path (Found_recipe m n r) = last_spot_where (is_so r) file path
where_recipe is_so file path (Found_module m) = []
where_recipe is_so file path Found_absent = []
where_recipe is_so file path (Found_nothing name) = []

module _ (text_of : StringLiteral → Option (List ℕ)) where
  abbrev pub has_option : AstRecipe → Bool
  has_option r = list_any (is_option text_of r.attributes) r.parameters

  -- the parameters that are no options
  abbrev pub positional : AstRecipe → List AstParameter
  positional r = filter (λ p. not (is_option text_of r.attributes p)) r.parameters

  -- whether a recipe takes so many arguments: no fewer than its positional parameters want, and no more than these are unless one is variadic
  abbrev pub takes_count : AstRecipe → ℕ → Bool
  takes_count r n =
      nat_le (length (filter wants_value (positional r))) n
      && (nat_le n (length (positional r)) || list_any (λ (p : AstParameter). is_variadic p.kind) (positional r))

  abbrev pub miscounted_dependency : Wins → Layout → DependencyIn → List Spot
  miscounted_dependency wins layout d =
      where_recipe (λ r. not (takes_count r (length d.dependency.arguments))) d.file d.dependency.path (dependency_target wins layout d.number d.dependency.path)

  abbrev pub option_dependency : Wins → Layout → DependencyIn → List Spot
  option_dependency wins layout d = where_recipe has_option d.file d.dependency.path (dependency_target wins layout d.number d.dependency.path)

  abbrev pub dependency_argument_count_spots : Wins → Layout → List Spot
  dependency_argument_count_spots wins layout = flat_map (miscounted_dependency wins layout) (all_dependencies wins layout)

  abbrev pub dependency_is_option_spots : Wins → Layout → List Spot
  dependency_is_option_spots wins layout = flat_map (option_dependency wins layout) (all_dependencies wins layout)
