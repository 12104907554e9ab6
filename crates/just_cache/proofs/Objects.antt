-- What is read back from the object of a key.
use Rattle.std.proofs.Common.{◌≡◌, ℕ, List, false, cond, Option, codes, refl, sym, ap, ◌∙◌, arith, bytes_eq}
use Rattle.serde_json.specs.Data.{Data, null, object, Members, no_members, member}
use Rattle.serde_json.specs.Written.{has_float}
use Rattle.just_cache.specs.declared.key.CacheKey.{CacheKey}
use Rattle.just_cache.specs.Members.{inputs}
use Rattle.just_cache.specs.Keys.{data_with, key_text}
use Rattle.just_cache.specs.Readable.{IsReadable}
use Rattle.just_cache.proofs.Plain.{IsPlain, float_free, same_data}
use Rattle.just_cache.proofs.Fields.{text_plain, texts_plain, texts_or_null_plain, environment_plain, inputs_plain, executor_plain, text_in, optional_in, texts_in, optional_texts_in, members_in, first_in, later_in, executor_in, text_back, texts_back, texts_or_null_back, executor_back}
use Rattle.just_cache.proofs.Orders.{environment_in, environment_back, inputs_in, inputs_back}
use Rattle.just_cache.proofs.PathTexts.{same_path}

-- the object of a key is plain
pub key_plain : (given : Data) (k : CacheKey) → IsPlain given 2 → IsPlain (data_with given k) 3
key_plain given k h =
    (texts_plain k.body 1, (environment_plain k.environment 1, (executor_plain k.executor 0, (text_plain k.extension 2, (text_plain k.extra 2, (h, (texts_or_null_plain k.positional 1, (tt, (text_plain k.working_directory 2, tt)))))))))

-- so it has no float
pub key_float_free : (k : CacheKey) (i : Option (List (List ℕ × List ℕ))) → has_float (data_with (inputs i) k) ≡ false
key_float_free k i = float_free (data_with (inputs i) k) 3 (key_plain (inputs i) k (inputs_plain i 1))

-- keys of one text have one object
pub same_object : (k l : CacheKey) → key_text k ≡ key_text l → data_with (inputs k.inputs) k ≡ data_with (inputs l.inputs) l
same_object k l e = same_data _ _ 3 (omega arith) (key_plain (inputs k.inputs) k (inputs_plain k.inputs 1)) (key_plain (inputs l.inputs) l (inputs_plain l.inputs 1)) e

-- members with null for the inputs
abbrev pub without_inputs : Members → Members
without_inputs no_members = no_members
without_inputs (member name d ms) = member name (cond (bytes_eq name (codes "inputs")) null d) (without_inputs ms)

pub inputs_forgotten : (given : Data) (k : CacheKey) → object (without_inputs (members_in (data_with given k))) ≡ data_with null k
inputs_forgotten given k = refl

-- the key of an object, with a path of its own
abbrev key_in : List (List ℕ) → Members → CacheKey
key_in path ms =
    let environment = later_in ms in
    let executor = later_in environment in
    let extension = later_in executor in
    let extra = later_in extension in
    let inputs = later_in extra in
    let positional = later_in inputs in
    let recipe = later_in positional in
    let folder = later_in recipe in
    record {
      body = texts_in (first_in ms);
      environment = environment_in (first_in environment);
      executor = executor_in (first_in executor);
      extension = optional_in (first_in extension);
      extra = optional_in (first_in extra);
      inputs = inputs_in (first_in inputs);
      positional = optional_texts_in (first_in positional);
      recipe = record { components = path };
      working_directory = optional_in (first_in folder);
    }

key_back : (k : CacheKey) → IsReadable k → key_in k.recipe.components (members_in (data_with (inputs k.inputs) k)) ≡ k
key_back k h = λ i. record {
  body = texts_back k.body i;
  environment = environment_back k.environment h.environment i;
  executor = executor_back k.executor i;
  extension = text_back k.extension i;
  extra = text_back k.extra i;
  inputs = inputs_back k.inputs h.some_input h.inputs i;
  positional = texts_or_null_back k.positional i;
  recipe = k.recipe;
  working_directory = text_back k.working_directory i;
}

abbrev path_in : Members → List ℕ
path_in ms = text_in (first_in (later_in (later_in (later_in (later_in (later_in (later_in (later_in ms))))))))

-- keys that can be read from their texts are the same where their objects are
pub same_key_in : (k l : CacheKey) → IsReadable k → IsReadable l → data_with (inputs k.inputs) k ≡ data_with (inputs l.inputs) l → k ≡ l
same_key_in k l p q e =
    let path : k.recipe.components ≡ l.recipe.components = same_path _ _ p.path q.path (ap (λ d. path_in (members_in d)) e) in
    sym (key_back k p) ∙ ap (λ d. key_in k.recipe.components (members_in d)) e ∙ ap (λ c. key_in c (members_in (data_with (inputs l.inputs) l))) path ∙ key_back l q
