-- What the assignments of a module give.
use Rattle.std.specs.Prelude.{ℕ, ◌≡◌, Bool, true, false, List, [], ◌∷◌, map, Option, Some, None, Ok, bytes_eq}
use Rattle.std.specs.Option.{unwrap_or}
use Rattle.just_lang_types.specs.declared.scope.Assignment.{Assignment}
use Rattle.just_lang_types.specs.declared.scope.DotenvOf.{DotenvOf}
use Rattle.just_lang_types.specs.declared.scope.Override.{Override}
use Rattle.just_lang_types.specs.declared.project.Justfile.{Justfile}
use Rattle.just_lang_types.specs.Constants.{constant_of}
use Rattle.just_lang_types.specs.Modules.{path_of, assignments_of}
use Rattle.just_eval_closure.specs.Scopes.{pairs_for, found_in}
use Rattle.just_eval_closure.specs.Values.{Valued, value}
use Rattle.just_eval.specs.Overrides.{override_of}

abbrev pub outcome_or : Bool → Valued → Option Valued → Option Valued
outcome_or true o other = Some o
outcome_or false o other = other

-- the outcome of the first assignment with that name
abbrev pub outcome_in : List Assignment → List Valued → List ℕ → Option Valued
outcome_in [] outcomes name = None
outcome_in (a ∷ more) [] name = None
outcome_in (a ∷ more) (o ∷ os) name = outcome_or (bytes_eq a.name name) o (outcome_in more os name)

-- what a name means that isn't assigned: the text of the constant; in a sound justfile there is no other name
abbrev pub constant_value : List ℕ → Valued
constant_value name = Ok (unwrap_or (constant_of name) [])

-- what a name means in a module whose assignments have these outcomes: its variables hide the constants
abbrev pub meaning_with : List Assignment → List Valued → List ℕ → Valued
meaning_with assignments outcomes name = unwrap_or (outcome_in assignments outcomes name) (constant_value name)

-- the outcome of an assignment: what the command line gives, else the value of the expression
abbrev pub assigned : Option (List ℕ) → Valued → Valued
assigned (Some text) own = Ok text
assigned None own = own

-- The outcomes of assignments, one for each, in their order. In their expressions each name means what these outcomes say.
abbrev pub AreOutcomesOf : (List ℕ → Option (List ℕ)) → (List ℕ → Option (List ℕ)) → List Assignment → List Valued → Type 0
AreOutcomesOf given env assignments outcomes = outcomes ≡ map (λ a. assigned (given a.name) (value (meaning_with assignments outcomes) env a.value)) assignments

-- the outcomes of a module's assignments
abbrev pub AreOutcomes : List DotenvOf → List (List ℕ × List ℕ) → List Override → Justfile → List Valued → Type 0
AreOutcomes dotenv environ overrides j outcomes = AreOutcomesOf (override_of overrides (path_of j)) (found_in (pairs_for dotenv (path_of j)) environ) (assignments_of j) outcomes
