-- The texts of a key, and of the entry that is kept for it.
use Rattle.std.specs.Prelude.{◌≡◌, ℕ, List, ◌++◌, take, drop, Option, None, codes}
use Rattle.serde_json.specs.Data.{Data, string, object, Members, no_members, member}
use Rattle.serde_json.specs.Written.{compact_text}
use Rattle.just_cache.specs.Members.{text_or_null, texts, texts_or_null, environment, inputs, executor_data, path_text, entry_data}
use Rattle.just_cache.specs.declared.key.CacheKey.{CacheKey}
use Rattle.just_cache.specs.declared.entry.CacheEntry.{CacheEntry}

-- the members of a key's object before its inputs, with those that follow them
abbrev pub before_inputs : CacheKey → Members → Members
before_inputs k following =
    member (codes "body") (texts k.body)
    (member (codes "environment") (environment k.environment)
    (member (codes "executor") (executor_data k.executor)
    (member (codes "extension") (text_or_null k.extension)
    (member (codes "extra") (text_or_null k.extra) following))))

-- the members behind its inputs
abbrev pub behind_inputs : CacheKey → Members
behind_inputs k =
    member (codes "positional") (texts_or_null k.positional)
    (member (codes "recipe") (string (path_text k.recipe.components))
    (member (codes "working_directory") (text_or_null k.working_directory) no_members))

-- the object of a key, with that for its inputs
abbrev pub data_with : Data → CacheKey → Data
data_with given k = object (before_inputs k (member (codes "inputs") given (behind_inputs k)))

-- the key as JSON in its shortest form
abbrev pub key_text : CacheKey → List ℕ
key_text k = compact_text (data_with (inputs k.inputs) k)

-- the text of the key without its inputs
abbrev pub class_text : CacheKey → List ℕ
class_text k = key_text (record k { inputs = None })

-- a class text with these inputs in place of the `null` that begins there
abbrev pub with_inputs : List ℕ → ℕ → Option (List (List ℕ × List ℕ)) → List ℕ
with_inputs class at files = take at class ++ compact_text (inputs files) ++ drop 4 (drop at class)

-- whatever the inputs, the text of the key is its class text with them in that place
abbrev pub TakesInputs : CacheKey → ℕ → Type 0
TakesInputs k at = (files : Option (List (List ℕ × List ℕ))) → key_text (record k { inputs = files }) ≡ with_inputs (class_text k) at files

abbrev pub entry_text : CacheEntry → List ℕ
entry_text e = compact_text (entry_data e.recipe.components)
