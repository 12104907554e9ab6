-- What names mean in scopes, and what an environment has.
use Rattle.std.specs.Prelude.{ℕ, false, List, [], ◌∷◌, ◌++◌, Option, Some, None, Ok, find, bytes_eq}
use Rattle.std.specs.List.{join_with_byte}
use Rattle.std.specs.Option.{option_map}
use Rattle.just_path_text.specs.Environ.{or_else, value_of}
use Rattle.just_lang_types.specs.declared.key.Value.{Value}
use Rattle.just_lang_types.specs.declared.recipe.Modulepath.{Modulepath}
use Rattle.just_lang_types.specs.declared.recipe.Parameter.{Parameter}
use Rattle.just_lang_types.specs.declared.scope.Binding.{Binding}
use Rattle.just_lang_types.specs.declared.scope.DotenvOf.{DotenvOf}
use Rattle.just_lang_types.specs.declared.scope.Level.{Level}
use Rattle.just_lang_types.specs.declared.scope.Scope.{Scope}
use Rattle.just_lang_types.specs.declared.scope.Scopes.{Scopes}
use Rattle.just_lang_types.specs.Keys.{same_path}
use Rattle.just_eval_closure.specs.Values.{Valued}

-- ---- what a name means in a scope

-- the text of a value: its elements with a blank between them
abbrev pub text_of_value : Value → List ℕ
text_of_value v = join_with_byte 32 v.elements

-- elements, each behind a blank
abbrev pub further : List (List ℕ) → List ℕ
further [] = []
further (x ∷ xs) = 32 ∷ x ++ further xs

abbrev pub value_of_text : List ℕ → Value
value_of_text text = record { elements = text ∷ [] }

-- the value of the binding with that name
abbrev pub value_in : List Binding → List ℕ → Option Value
value_in bindings name = option_map (λ b. b.value) (find (λ b. bytes_eq b.name name) bindings)

-- the value of a name: an inner level hides those outside of it
abbrev pub value_among : List Level → List ℕ → Option Value
value_among [] name = None
value_among (level ∷ inner) name = or_else (value_among inner name) (value_in level.bindings name)

abbrev pub text_or_none : Option Value → List ℕ
text_or_none None = []
text_or_none (Some v) = text_of_value v

-- what a name means in a scope; in a sound justfile each name has a value there
abbrev pub meaning_in : Scope → List ℕ → Valued
meaning_in scope name = Ok (text_or_none (value_among scope.levels name))

-- ---- what the environment of a module has

abbrev pub pairs_in : Option DotenvOf → List (List ℕ × List ℕ)
pairs_in None = []
pairs_in (Some d) = d.pairs

-- the dotenv pairs of a module
abbrev pub pairs_for : List DotenvOf → Modulepath → List (List ℕ × List ℕ)
pairs_for dotenv path = pairs_in (find (λ d. same_path d.module path) dotenv)

-- what `env` finds: the value of a dotenv pair, else that of the environment
abbrev pub found_in : List (List ℕ × List ℕ) → List (List ℕ × List ℕ) → List ℕ → Option (List ℕ)
found_in pairs environ name = or_else (value_of name pairs) (value_of name environ)

-- ---- levels of parameters

-- parameters with their values
abbrev pub parameter_bindings : List Parameter → List Value → List Binding
parameter_bindings [] values = []
parameter_bindings (p ∷ ps) [] = []
parameter_bindings (p ∷ ps) (v ∷ vs) = record { name = p.name; value = v; export = p.export } ∷ parameter_bindings ps vs

-- levels, behind which come that of parameters with their values and an empty one
abbrev pub levels_within : List Level → List Parameter → List Value → List Level
levels_within levels parameters values = levels ++ record { bindings = parameter_bindings parameters values; prelude = false } ∷ record { bindings = []; prelude = false } ∷ []

-- the scope of a module
abbrev pub scope_of : Scopes → Modulepath → Option Scope
scope_of scopes path = option_map (λ s. s.1) (find (λ s. same_path s.0 path) scopes.scopes)
