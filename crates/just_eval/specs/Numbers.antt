-- The numbers of assignments by their names.
use Rattle.std.specs.Prelude.{ℕ, ◌≡◌, List, Some, None, bytes_eq, if◌then◌else◌}
use Rattle.std.specs.BTreeMap.{BTreeMap, get}
use Rattle.just_path_text.specs.Environ.{or_else}
use Rattle.just_lang_types.specs.declared.scope.Assignment.{Assignment}
use Rattle.just_eval_closure.specs.Numbers.{text_cmp}
use Rattle.just_eval.specs.Uses.{named}

-- the map has the number of the first assignment of each name
abbrev pub AreNumbers : List Assignment → BTreeMap (List ℕ) ℕ → Type 0
AreNumbers assignments numbers = (name : List ℕ) → get text_cmp numbers name ≡ named assignments name

-- the later map has the number under the name, where the earlier has nothing there, and else what the earlier has
abbrev pub Enters : BTreeMap (List ℕ) ℕ → List ℕ → ℕ → BTreeMap (List ℕ) ℕ → Type 0
Enters earlier name number later = (q : List ℕ) → get text_cmp later q ≡ or_else (get text_cmp earlier q) (if bytes_eq name q then Some number else None)
