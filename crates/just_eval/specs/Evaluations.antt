-- The scopes that the assignments of a project make, or why it is refused.
use Rattle.std.specs.Prelude.{ℕ, ◌≡◌, true, false, List, [], ◌∷◌, map, Ok, Err}
use Rattle.just_path_text.specs.declared.environ.Environ.{Environ}
use Rattle.just_lang_types.specs.declared.recipe.Modulepath.{Modulepath}
use Rattle.just_lang_types.specs.declared.scope.Assignment.{Assignment}
use Rattle.just_lang_types.specs.declared.scope.Binding.{Binding}
use Rattle.just_lang_types.specs.declared.scope.DotenvOf.{DotenvOf}
use Rattle.just_lang_types.specs.declared.scope.Level.{Level}
use Rattle.just_lang_types.specs.declared.scope.Override.{Override}
use Rattle.just_lang_types.specs.declared.scope.Scope.{Scope}
use Rattle.just_lang_types.specs.declared.scope.Scopes.{Scopes}
use Rattle.just_lang_types.specs.declared.project.Justfile.{Justfile}
use Rattle.just_lang_types.specs.declared.project.LangError.{LangError}
use Rattle.just_lang_types.specs.declared.project.LangError.TheVariants as error
use Rattle.just_lang_types.specs.Constants.{constants}
use Rattle.just_lang_types.specs.Modules.{path_of, assignments_of}
use Rattle.just_eval_closure.specs.Answers.{Answer, and_then, each, told}
use Rattle.just_eval_closure.specs.Scopes.{value_of_text}
use Rattle.just_eval_closure.specs.Values.{Valued}
use Rattle.just_eval.specs.Outcomes.{AreOutcomes}
use Rattle.just_eval.specs.Overrides.{Variable, AreUnknown, variable_text}

-- ---- the scope of a module

-- each constant with its text
abbrev pub constant_bindings : List Binding
constant_bindings = map (λ c. record { name = c.0; value = value_of_text c.1; export = false }) constants

abbrev pub constant_level : Level
constant_level = record { bindings = constant_bindings; prelude = true }

-- the variables of a module with their texts
abbrev pub bindings_of : List Assignment → List (List ℕ) → List Binding
bindings_of [] texts = []
bindings_of (a ∷ more) [] = []
bindings_of (a ∷ more) (t ∷ ts) = record { name = a.name; value = value_of_text t; export = a.export } ∷ bindings_of more ts

-- the constants, and within them the variables of the module
abbrev pub scope_with : List Binding → Scope
scope_with bindings = record { levels = constant_level ∷ record { bindings = bindings; prelude = false } ∷ [] }

-- the variables of a module whose assignments have these outcomes; the first that is refused counts
abbrev pub bindings_told : List Assignment → List Valued → Answer (List Binding)
bindings_told assignments outcomes = and_then (each told outcomes) (λ texts. Ok (bindings_of assignments texts))

abbrev pub scope_told : List Assignment → List Valued → Answer Scope
scope_told assignments outcomes = and_then (bindings_told assignments outcomes) (λ bindings. Ok (scope_with bindings))

-- the scope that a module's assignments make, or why it is refused
pub record IsScope (dotenv : List DotenvOf) (environ : List (List ℕ × List ℕ)) (overrides : List Override) (j : Justfile) (answer : Answer Scope) : Type 0 where
  pub outcomes : List Valued
  pub are : AreOutcomes dotenv environ overrides j outcomes
  pub is : scope_told (assignments_of j) outcomes ≡ answer

-- ---- the scopes of all modules

-- The scopes of modules, one behind the other. The first module that is refused refuses them all.
pub data Evaluates (dotenv : List DotenvOf) (environ : List (List ℕ × List ℕ)) (overrides : List Override) : List Justfile → Answer (List (Modulepath × Scope)) → Type 0 where
  none : Evaluates dotenv environ overrides [] (Ok [])
  refused : (j : Justfile) (js : List Justfile) (e : LangError) → IsScope dotenv environ overrides j (Err e) → Evaluates dotenv environ overrides (j ∷ js) (Err e)
  more : (j : Justfile) (js : List Justfile) (s : Scope) (others : Answer (List (Modulepath × Scope))) → IsScope dotenv environ overrides j (Ok s) → Evaluates dotenv environ overrides js others
      → Evaluates dotenv environ overrides (j ∷ js) (and_then others (λ ss. Ok ((path_of j, s) ∷ ss)))

-- What evaluating a project answers, whose modules are these. Where a variable is overridden that no module assigns, all such
-- are told, whatever the values are.
pub data IsEvaluation (modules : List Justfile) (dotenv : List DotenvOf) (environ : Environ) (overrides : List Override) : Answer Scopes → Type 0 where
  unknown : (v : Variable) (vs : List Variable) → AreUnknown modules overrides (v ∷ vs) → IsEvaluation modules dotenv environ overrides (Err (error.UnknownOverrides (map variable_text (v ∷ vs))))
  known : (found : Answer (List (Modulepath × Scope))) → AreUnknown modules overrides [] → Evaluates dotenv environ.pairs overrides modules found
      → IsEvaluation modules dotenv environ overrides (and_then found (λ scopes. Ok (record { scopes = scopes; dotenv = dotenv; environ = environ })))
