-- What `--evaluate` prints.
use Rattle.std.specs.Prelude.{◌≡◌, ℕ, if◌then◌else◌, List, [], ◌∷◌, ◌++◌, map, find, Option, Some, None, Result, Ok, Err, codes, bytes_eq}
use Rattle.std.specs.List.{flat_map}
use Rattle.std.specs.Option.{option_map_or, unwrap_or}
use Rattle.just_lang_types.specs.declared.project.Justfile.{Justfile}
use Rattle.just_lang_types.specs.declared.scope.Binding.{Binding}
use Rattle.just_lang_types.specs.declared.scope.Level.{Level}
use Rattle.just_lang_types.specs.declared.scope.Scope.{Scope}
use Rattle.just_lang_types.specs.declared.scope.Scopes.{Scopes}
use Rattle.just_lang_types.specs.Modules.{path_of}
use Rattle.just_eval_closure.specs.Scopes.{text_of_value, scope_of}
use Rattle.just_eval_words.specs.Names.{module_named}
use Rattle.just_eval_words.specs.Paths.{parts}
use Rattle.just_config.specs.declared.config.Config.{Config}
use Rattle.just_config.specs.ModulePaths.{module_path}
use Rattle.just_print_lists.specs.declared.variable.Evaluated.{Evaluated}
use Rattle.just_print_lists.specs.declared.variable.EvaluateFormat.{EvaluateFormat}
use Rattle.just_print_lists.specs.declared.variable.EvaluateFormat.TheVariants as format
use Rattle.just_print_lists.specs.Evaluated.{evaluated_text}
use Rattle.just_exec.specs.declared.error.Error.{Error}
use Rattle.just_exec.specs.declared.error.Error.TheVariants as error

-- the names in the word of the command: those of a module path, else what stands between its `::`
abbrev pub names_of_word : List ℕ → List (List ℕ)
names_of_word w = unwrap_or (module_path (w ∷ [])) (parts w)

abbrev pub names_of_words : List (List ℕ) → List (List ℕ)
names_of_words [] = []
names_of_words (w ∷ ws) = names_of_word w

-- the format that a word means, and that of a configuration
abbrev pub format_named : List ℕ → EvaluateFormat
format_named word = if bytes_eq word (codes "shell") then format.Shell else format.Just

abbrev pub format_of : Config → EvaluateFormat
format_of c = option_map_or format_named c.evaluate_format format.Just

-- ---- the variables of a module with their values

abbrev pub as_evaluated : Binding → Evaluated
as_evaluated b = record { name = b.name; text = text_of_value b.value }

-- those of a level, but of that of the constants
abbrev pub own_bindings : Level → List Binding
own_bindings level = if level.prelude then [] else level.bindings

abbrev pub variables_in : Option Scope → List Evaluated
variables_in None = []
variables_in (Some s) = map as_evaluated (flat_map own_bindings s.levels)

abbrev pub variables_of : Scopes → Justfile → List Evaluated
variables_of scopes j = variables_in (scope_of scopes (path_of j))

abbrev pub variable_named : List Evaluated → List ℕ → Option Evaluated
variable_named vs name = find (λ (v : Evaluated). bytes_eq v.name name) vs

-- ---- what names come to

-- all variables of a module
abbrev pub all_text : EvaluateFormat → Scopes → Justfile → List ℕ
all_text f scopes j = evaluated_text f (variables_of scopes j)

module _ (modules : List Justfile) where
  abbrev pub step_in : Option Justfile → (Justfile → Result Justfile Error) → List ℕ → Result Justfile Error
  step_in None go name = Err (error.EvalUnknownSubmodule name)
  step_in (Some m) go name = go m

  -- the module that names lead to, each that of a module or of an alias of one
  abbrev pub evaluated_module : List (List ℕ) → Justfile → Result Justfile Error
  evaluated_module [] j = Ok j
  evaluated_module (name ∷ names) j = step_in (module_named modules j name) (λ m. evaluated_module names m) name

module _ (f : EvaluateFormat) (modules : List Justfile) (scopes : Scopes) where
  -- a variable by its text alone, else a module of that name
  abbrev pub text_named : List ℕ → Option Evaluated → Option Justfile → Result (List ℕ) Error
  text_named name (Some v) m = Ok v.text
  text_named name None (Some m) = Ok (all_text f scopes m)
  text_named name None None = Err (error.EvalUnknownSubmoduleOrVariable name)

  abbrev pub text_in : Justfile → List ℕ → Result (List ℕ) Error
  text_in j name = text_named name (variable_named (variables_of scopes j) name) (module_named modules j name)

  -- What is printed of what names come to from the root: all variables of the root where there are none; else of what the last of them is in the module that
  -- those in front of it lead to.
  pub data EvaluatesNames (root : Justfile) (names : List (List ℕ)) (r : Result (List ℕ) Error) : Type 0 where
    whole : names ≡ [] → r ≡ Ok (all_text f scopes root) → EvaluatesNames root names r
    lost : (front : List (List ℕ)) (last : List ℕ) (e : Error) → names ≡ front ++ last ∷ [] → evaluated_module modules front root ≡ Err e → r ≡ Err e → EvaluatesNames root names r
    named : (front : List (List ℕ)) (last : List ℕ) (j : Justfile) → names ≡ front ++ last ∷ [] → evaluated_module modules front root ≡ Ok j → r ≡ text_in j last → EvaluatesNames root names r
