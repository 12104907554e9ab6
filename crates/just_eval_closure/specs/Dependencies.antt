-- The keys that a key depends on, with their arguments.
use Rattle.std.specs.Prelude.{ℕ, Bool, true, false, ◌&&◌, if◌then◌else◌, List, [], ◌∷◌, ◌++◌, Option, Some, None, Ok, Err, bytes_eq}
use Rattle.std.specs.List.{list_any, flat_map}
use Rattle.just_lang_syntax.specs.declared.ast.Expr.{Expr, out-Expr}
use Rattle.just_lang_syntax.specs.declared.ast.Expr.TheOpen.{Expr-F}
use Rattle.just_lang_syntax.specs.declared.ast.ParameterKind.{ParameterKind}
use Rattle.just_lang_syntax.specs.declared.ast.ParameterKind.TheVariants.{Singular, Plus, Star}
pub use Rattle.just_lang_types.specs.ParameterKinds.{is_variadic}
use Rattle.just_lang_types.specs.declared.key.Key.{Key}
use Rattle.just_lang_types.specs.declared.key.Value.{Value}
use Rattle.just_lang_types.specs.declared.recipe.Dependency.{Dependency}
use Rattle.just_lang_types.specs.declared.recipe.Modulepath.{Modulepath}
use Rattle.just_lang_types.specs.declared.recipe.Parameter.{Parameter}
use Rattle.just_lang_types.specs.declared.scope.Level.{Level}
use Rattle.just_lang_types.specs.declared.scope.Scope.{Scope}
use Rattle.just_lang_types.specs.declared.scope.Scopes.{Scopes}
use Rattle.just_lang_types.specs.declared.project.Justfile.{Justfile}
use Rattle.just_lang_types.specs.declared.project.LangError.TheVariants as error
use Rattle.just_eval_closure.specs.Scopes.{text_of_value, value_of_text, value_among, meaning_in, levels_within, pairs_for, found_in, scope_of}
use Rattle.just_eval_closure.specs.Values.{value}
use Rattle.just_eval_closure.specs.Answers.{Answer, and_then, each, told}
use Rattle.just_lang_types.specs.Modules.{path_of, Located, recipe_at}

-- ---- scopes of recipes

abbrev pub levels_in : Option Scope → List Level
levels_in None = []
levels_in (Some s) = s.levels

-- the scope of a module, behind which come parameters with their values
abbrev pub scope_within : Scopes → Modulepath → List Parameter → List Value → Scope
scope_within scopes path parameters values = record { levels = levels_within (levels_in (scope_of scopes path)) parameters values }

-- the value of an expression in a scope of a module
abbrev pub value_within : Scopes → Modulepath → Scope → Expr → Answer (List ℕ)
value_within scopes path scope x = told (value (meaning_in scope) (found_in (pairs_for scopes.dotenv path) scopes.environ.pairs) x)

-- ---- arguments

-- whether one of the parameters has that name and takes several values
abbrev pub names_variadic : List Parameter → List ℕ → Bool
names_variadic parameters name = list_any (λ p. bytes_eq p.name name && is_variadic p.kind) parameters

abbrev pub name_by : Expr-F Expr → Option (List ℕ)
name_by (Expr-F.If left comparison right consequent chained alternative) = None
name_by (Expr-F.Root inside) = None
name_by (Expr-F.Join first second) = None
name_by (Expr-F.Concat first second) = None
name_by (Expr-F.Literal s) = None
name_by (Expr-F.Variable name) = Some name.text
name_by (Expr-F.Group inside) = None
name_by (Expr-F.Env line column key default) = None

-- the name that an expression is
abbrev pub bare_name : Expr → Option (List ℕ)
bare_name x = name_by (out-Expr x)

abbrev pub as_value : Answer (List ℕ) → Answer Value
as_value text = and_then text (λ t. Ok (value_of_text t))

abbrev pub value_or_none : Option Value → Value
value_or_none None = record { elements = [] }
value_or_none (Some v) = v

module _ (scopes : Scopes) (from : Located) (arguments : List Value) where
  -- what the expressions in a recipe see
  abbrev pub scope_of_recipe : Scope
  scope_of_recipe = scope_within scopes (path_of from.parent) from.recipe.parameters arguments

  abbrev pub text_in_recipe : Expr → Answer (List ℕ)
  text_in_recipe x = value_within scopes (path_of from.parent) scope_of_recipe x

  -- an argument: the bare name of a parameter that takes several values has its elements, anything else is one text
  abbrev pub argument_by : Option (List ℕ) → Expr → Answer Value
  argument_by None x = as_value (text_in_recipe x)
  argument_by (Some name) x =
      if names_variadic from.recipe.parameters name then Ok (value_or_none (value_among scope_of_recipe.levels name)) else as_value (text_in_recipe x)

  abbrev pub argument : Expr → Answer Value
  argument x = argument_by (bare_name x) x

-- what each parameter is given of some arguments in their order: one that takes several values all that are left
abbrev pub shares : List Parameter → List Value → List (Option (List (List ℕ)))
shares [] arguments = []
shares (p ∷ ps) [] = None ∷ shares ps []
shares (p ∷ ps) (v ∷ vs) = if is_variadic p.kind then Some (flat_map (λ a. a.elements) (v ∷ vs)) ∷ shares ps [] else Some (text_of_value v ∷ []) ∷ shares ps vs

-- The values of a recipe's parameters: what is given, else the default, which sees the parameters before it. A `+` that is
-- given no element is refused.
module _ (scopes : Scopes) (to : Located) where
  abbrev pub default_value : Option Expr → List Value → Answer Value
  default_value None done = Ok (record { elements = [] })
  default_value (Some x) done = as_value (value_within scopes (path_of to.parent) (scope_within scopes (path_of to.parent) to.recipe.parameters done) x)

  abbrev pub value_from : Parameter → ParameterKind → Option (List (List ℕ)) → List Value → Answer Value
  value_from p kind None done = default_value p.default done
  value_from p Plus (Some []) done = Err (error.EmptyListArgument to.recipe.name p.name)
  value_from p Singular (Some []) done = Ok (record { elements = [] })
  value_from p Star (Some []) done = Ok (record { elements = [] })
  value_from p kind (Some (t ∷ ts)) done = Ok (record { elements = t ∷ ts })

  -- the values of all parameters, where those in front have these and the others are given that
  abbrev pub values_behind : List Value → List Parameter → List (Option (List (List ℕ))) → Answer (List Value)
  values_behind done [] given = Ok done
  values_behind done (p ∷ ps) [] = Ok done
  values_behind done (p ∷ ps) (g ∷ gs) = and_then (value_from p p.kind g done) (λ v. values_behind (done ++ v ∷ []) ps gs)

  abbrev pub values_given : List (Option (List (List ℕ))) → Answer (List Value)
  values_given given = values_behind [] to.recipe.parameters given

-- ---- dependencies

module _ (modules : List Justfile) (scopes : Scopes) where
  abbrev pub key_to : Modulepath → List Value → Option Located → Answer Key
  key_to path arguments None = Ok (record { recipe = path; arguments = arguments })
  key_to path arguments (Some to) = and_then (values_given scopes to (shares to.recipe.parameters arguments)) (λ values. Ok (record { recipe = path; arguments = values }))

  -- the key of a dependency, whose arguments the recipe's scope gives
  abbrev pub key_of : Located → List Value → Dependency → Answer Key
  key_of from values d = and_then (each (argument scopes from values) d.arguments) (λ arguments. key_to d.path arguments (recipe_at modules d.path))

  abbrev pub keys_of : Option Located → List Value → Answer (List Key × List Key)
  keys_of None values = Ok ([], [])
  keys_of (Some from) values =
      and_then (each (key_of from values) from.recipe.priors) (λ priors. and_then (each (key_of from values) from.recipe.subsequents) (λ subsequents. Ok (priors, subsequents)))

  -- the keys that come before a key, and those that come behind it
  abbrev pub deps : Key → Answer (List Key × List Key)
  deps k = keys_of (recipe_at modules k.recipe) k.arguments
