-- The fields of a key as JSON.
use Rattle.std.specs.Prelude.{ℕ, List, [], ◌∷◌, map, Option, None, Some, codes}
use Rattle.std.specs.List.{fold, join_by}
use Rattle.serde_json.specs.Data.{Data, null, string, array, object, Members, no_members, member, put}
use Rattle.serde_json.specs.View.{items_of}
use Rattle.just_lang_types.specs.declared.settings.Interpreter.{Interpreter}
use Rattle.just_cache.specs.declared.key.KeyExecutor.{KeyExecutor}
use Rattle.just_cache.specs.declared.key.KeyExecutor.TheVariants as executor

-- a text, or null where there is none
abbrev pub text_or_null : Option (List ℕ) → Data
text_or_null None = null
text_or_null (Some t) = string t

abbrev pub texts : List (List ℕ) → Data
texts ts = array (items_of (map string ts))

-- a list of texts, or null where there is none
abbrev pub texts_or_null : Option (List (List ℕ)) → Data
texts_or_null None = null
texts_or_null (Some ts) = texts ts

-- the object of names with their values, put in one after another: in byte order, and of a name that comes again the last one counts
abbrev pub object_by : {A : Type 0} → (A → Data) → Members → List (List ℕ × A) → Members
object_by value = fold (λ found pair. put pair.0 (value pair.1) found)

-- each name with its text, or null where the variable is taken out
abbrev pub environment : List (List ℕ × Option (List ℕ)) → Data
environment pairs = object (object_by text_or_null no_members pairs)

abbrev pub object_of_inputs : List (List ℕ × List ℕ) → Data
object_of_inputs pairs = object (object_by string no_members pairs)

-- each name with its digest; null where none is named
abbrev pub inputs : Option (List (List ℕ × List ℕ)) → Data
inputs None = null
inputs (Some []) = null
inputs (Some (pair ∷ pairs)) = object_of_inputs (pair ∷ pairs)

abbrev pub command_data : Interpreter → Data
command_data i = object (member (codes "arguments") (texts i.arguments) (member (codes "command") (string i.command) (member (codes "type") (string (codes "command")) no_members)))

abbrev pub shebang_data : Option (List ℕ) → List ℕ → Data
shebang_data argument interpreter = object (member (codes "argument") (text_or_null argument) (member (codes "interpreter") (string interpreter) (member (codes "type") (string (codes "shebang")) no_members)))

abbrev pub executor_data : KeyExecutor → Data
executor_data (executor.Command i) = command_data i
executor_data (executor.Shebang argument interpreter) = shebang_data argument interpreter

-- a module path, its names joined by `::`
abbrev pub path_text : List (List ℕ) → List ℕ
path_text = join_by (λ name. name) (codes "::")

abbrev pub entry_data : List (List ℕ) → Data
entry_data path = object (member (codes "recipe") (string (path_text path)) no_members)
