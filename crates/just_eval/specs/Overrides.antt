-- What the command line gives to variables, and what it gives to none.
use Rattle.std.specs.Prelude.{ℕ, ◌≡◌, ◌↔◌, Bool, true, false, ◌&&◌, List, [], ◌∷◌, ◌++◌, Option, Some, None, bytes_eq, codes, Contains}
use Rattle.std.specs.BTreeMap.{BTreeMap, get}
use Rattle.std.specs.List.{list_any}
use Rattle.std.specs.List.Sorted.{IsStrictlySortedBy}
use Rattle.std.specs.declared.cmp.Ordering.{Ordering}
use Rattle.std.specs.Ordering.{ordering_then}
use Rattle.just_path_text.specs.Environ.{or_else}
use Rattle.just_lang_types.specs.declared.recipe.Modulepath.{Modulepath}
use Rattle.just_lang_types.specs.declared.scope.Assignment.{Assignment}
use Rattle.just_lang_types.specs.declared.scope.Override.{Override}
use Rattle.just_lang_types.specs.declared.project.Justfile.{Justfile}
use Rattle.just_lang_types.specs.Keys.{same_path}
use Rattle.just_eval_closure.specs.Numbers.{text_cmp, path_cmp}
use Rattle.just_config_words.specs.Paths.{prefix_of}
use Rattle.just_lang_types.specs.Modules.{path_of, assignments_of}

-- a variable of a project: the path of its module, and its name
abbrev pub Variable : Type 0
Variable = Modulepath × List ℕ

-- ---- what is given

abbrev pub override_in : Override → Bool → Option (List ℕ)
override_in o true = Some o.value
override_in o false = None

-- the value that the command line gives to a variable of a module: the last one counts
abbrev pub override_of : List Override → Modulepath → List ℕ → Option (List ℕ)
override_of [] path name = None
override_of (o ∷ os) path name = or_else (override_of os path name) (override_in o (same_path o.module path && bytes_eq o.name name))

-- the later map has what the override gives, where it is one of the module, and else what the earlier has
abbrev pub Keeps : Override → Modulepath → BTreeMap (List ℕ) (List ℕ) → BTreeMap (List ℕ) (List ℕ) → Type 0
Keeps o path earlier later = (name : List ℕ) → get text_cmp later name ≡ or_else (override_in o (same_path o.module path && bytes_eq o.name name)) (get text_cmp earlier name)

-- the map has what is given to each variable of the module
abbrev pub AreGiven : List Override → Modulepath → BTreeMap (List ℕ) (List ℕ) → Type 0
AreGiven overrides path given = (name : List ℕ) → get text_cmp given name ≡ override_of overrides path name

-- ---- what is given to no variable

-- whether the command line gives a value to the variable
abbrev pub is_overridden : List Override → Variable → Bool
is_overridden overrides v = list_any (λ o. same_path o.module v.0 && bytes_eq o.name v.1) overrides

-- whether one of these assignments has the name
abbrev pub assigns : List Assignment → List ℕ → Bool
assigns assignments name = list_any (λ a. bytes_eq a.name name) assignments

-- whether the module of that path assigns the variable
abbrev pub is_assigned : List Justfile → Variable → Bool
is_assigned modules v = list_any (λ j. same_path (path_of j) v.0 && assigns (assignments_of j) v.1) modules

-- the order of variables: by module path, and then by name
abbrev pub variable_cmp : Variable → Variable → Ordering
variable_cmp v w = ordering_then (path_cmp v.0 w.0) (text_cmp v.1 w.1)

-- These are the variables that the command line gives a value and that no module assigns, each once and in their order.
pub record AreUnknown (modules : List Justfile) (overrides : List Override) (variables : List Variable) : Type 0 where
  pub which : (v : Variable) → Contains variables v ↔ ((is_overridden overrides v ≡ true) × (is_assigned modules v ≡ false))
  pub ordered : IsStrictlySortedBy variable_cmp variables

-- a variable as a message names it: its module's path and its name, joined by `::`
abbrev pub variable_text : Variable → List ℕ
variable_text v = prefix_of v.0.components ++ v.1
