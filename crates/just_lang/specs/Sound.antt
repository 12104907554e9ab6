-- A sound justfile: its names are known, no two of its aliases have one, its parameters are in order, and its dependencies and aliases lead to what there is and fit.
-- That no recipe and no variable leads to itself is said by `AreEnding` of recipes and of variables.
use Rattle.std.specs.Prelude.{◌≡◌, ◌≢◌, ◌⊎◌, ℕ, ◌≤◌, ◌||◌, not, Bool, true, false, is_some, List, [], ◌∷◌, ◌++◌, map, filter, length, Some, All, Contains, IfSome, if◌then◌else◌, bytes_eq, codes}
use Rattle.std.specs.List.{flat_map, list_any}
use Rattle.just_lang_syntax.specs.declared.ast.Argument.{Argument}
use Rattle.just_lang_syntax.specs.declared.ast.Attribute.{Attribute}
use Rattle.just_lang_syntax.specs.declared.ast.Expr.{Expr}
use Rattle.just_lang_syntax.specs.declared.ast.Fragment.{Fragment}
use Rattle.just_lang_syntax.specs.declared.ast.Fragment.TheVariants as fragment
use Rattle.just_lang_syntax.specs.declared.ast.Line.{Line}
use Rattle.just_lang_syntax.specs.declared.ast.Name.{Name}
use Rattle.just_lang_types.specs.Constants.{constant_of}
use Rattle.just_lang_types.specs.declared.project.Justfile.{Justfile, out-Justfile}
use Rattle.just_lang_types.specs.declared.recipe.Dependency.{Dependency}
use Rattle.just_lang_types.specs.declared.recipe.Parameter.{Parameter}
use Rattle.just_lang_types.specs.declared.recipe.Recipe.{Recipe}
use Rattle.just_lang_types.specs.declared.scope.Alias.{Alias}
use Rattle.just_lang_types.specs.declared.scope.Assignment.{Assignment}
use Rattle.just_lang_types.specs.declared.scope.Disabled.{Disabled}
use Rattle.just_lang_spots.specs.Repeated.{is_among}
use Rattle.just_lang_rules.specs.ParameterSpots.{is_star}
use Rattle.just_lang_names.specs.NamesUsed.{names_of_expr}
use Rattle.just_lang_names.specs.TargetSpots.{is_variadic}
use Rattle.just_lang_shapes.specs.Recipes.{path_within}
use Rattle.just_lang_types.specs.Modules.{Located, AreModules, path_of, recipes_of, assignments_of, recipe_at}

abbrev pub AreDistinct : List (List ℕ) → Type 0
AreDistinct [] = Unit {0}
AreDistinct (x ∷ xs) = All (λ (y : List ℕ). y ≢ x) xs × AreDistinct xs

-- ---- names

abbrev pub variable_names : Justfile → List (List ℕ)
variable_names j = map (λ (a : Assignment). a.name) (assignments_of j)

-- those of its aliases: of those of recipes, of those of modules, and of those that can't be run
abbrev pub alias_names : Justfile → List (List ℕ)
alias_names j =
    map (λ (a : Alias). a.name) (out-Justfile j).recipe_aliases
    ++ (map (λ (a : Alias). a.name) (out-Justfile j).module_aliases ++ map (λ (d : Disabled). d.name) (out-Justfile j).disabled_aliases)

abbrev pub parameter_names : List Parameter → List (List ℕ)
parameter_names ps = map (λ (p : Parameter). p.name) ps

-- a name is one of these or a constant's
abbrev pub IsKnown : List (List ℕ) → Name → Type 0
IsKnown names n = (is_among n.text names || is_some (constant_of n.text)) ≡ true

-- each name in an expression is
abbrev pub AreKnown : List (List ℕ) → Expr → Type 0
AreKnown names x = All (IsKnown names) (names_of_expr x)

-- a parameter's default names the parameters before it and those others
abbrev pub AreDefaultsKnown : List (List ℕ) → List Parameter → Type 0
AreDefaultsKnown names [] = Unit {0}
AreDefaultsKnown names (p ∷ ps) = IfSome p.default (AreKnown names) × AreDefaultsKnown (p.name ∷ names) ps

abbrev pub exprs_in_fragment : Fragment → List Expr
exprs_in_fragment (fragment.Text text) = []
exprs_in_fragment (fragment.Value x) = x ∷ []

abbrev pub exprs_in_body : List Line → List Expr
exprs_in_body lines = flat_map (λ (line : Line). flat_map exprs_in_fragment line.fragments) lines

-- the values of the keys of `cache`
abbrev pub exprs_in_cache : Attribute → List Expr
exprs_in_cache a = if bytes_eq a.name.text (codes "cache") then map (λ (x : Argument). x.value) a.arguments else []

-- ---- parameters

-- a parameter that is given by a switch
abbrev pub is_option : Parameter → Bool
is_option p = is_some p.long || is_some p.short

-- one that has no default and wants a value
abbrev pub wants_value : Parameter → Bool
wants_value p = not (is_some p.default || is_star p.kind)

-- behind one with a default none wants a value but by a switch
abbrev pub AreInOrder : List Parameter → Type 0
AreInOrder [] = Unit {0}
AreInOrder (p ∷ ps) = (is_some p.default ≡ true → All (λ (q : Parameter). (wants_value q ≡ false) ⊎ (is_option q ≡ true)) ps) × AreInOrder ps

-- a recipe takes so many arguments, none of them by a switch
pub record Takes (r : Recipe) (count : ℕ) : Type 0 where
  pub positional : list_any is_option r.parameters ≡ false
  pub enough : length (filter wants_value r.parameters) ≤ count
  pub not_more : (list_any (λ (p : Parameter). is_variadic p.kind) r.parameters ≡ true) ⊎ (count ≤ length r.parameters)

-- ---- dependencies

abbrev pub dependencies_of : Recipe → List Dependency
dependencies_of r = r.priors ++ r.subsequents

-- a dependency leads to a recipe that takes its arguments
abbrev pub Fits : List Justfile → Dependency → Type 0
Fits modules d = (l : Located) × (recipe_at modules d.path ≡ Some l) × Takes l.recipe (length d.arguments)

-- ---- modules

pub record IsSoundRecipe (modules : List Justfile) (j : Justfile) (r : Recipe) : Type 0 where
  pub path : r.path ≡ path_within (path_of j) r.name
  pub parameters : AreDistinct (parameter_names r.parameters)
  pub order : AreInOrder r.parameters
  pub defaults : AreDefaultsKnown (variable_names j) r.parameters
  pub arguments : All (λ (d : Dependency). All (AreKnown (parameter_names r.parameters ++ variable_names j)) d.arguments) (dependencies_of r)
  pub cache : All (AreKnown (parameter_names r.parameters ++ variable_names j)) (flat_map exprs_in_cache r.attributes)
  pub body : All (AreKnown (parameter_names r.parameters ++ variable_names j)) (exprs_in_body r.body)
  pub dependencies : All (Fits modules) (dependencies_of r)

pub record IsSoundModule (modules : List Justfile) (j : Justfile) : Type 0 where
  pub variables : AreDistinct (variable_names j)
  pub values : All (λ (a : Assignment). AreKnown (variable_names j) a.value) (assignments_of j)
  pub names : AreDistinct (map (λ (r : Recipe). r.name) (recipes_of j))
  pub recipes : All (IsSoundRecipe modules j) (recipes_of j)
  pub aliases : AreDistinct (alias_names j)
  pub recipe_aliases : All (λ (a : Alias). (l : Located) × (recipe_at modules a.target ≡ Some l)) (out-Justfile j).recipe_aliases
  pub module_aliases : All (λ (a : Alias). (inner : Justfile) × Contains modules inner × (path_of inner ≡ a.target)) (out-Justfile j).module_aliases

-- each module is sound
abbrev pub IsSound : Justfile → Type 0
IsSound root = (modules : List Justfile) → AreModules (root ∷ []) modules → All (IsSoundModule modules) modules
