-- The laws that this crate offers to the proofs of the crates above it.
use Rattle.std.proofs.Common.{◌≡◌, ℕ, List, Option, None, ap, sym, subst, ◌∙◌}
use Rattle.serde_json.specs.Data.{object}
use Rattle.serde_json.specs.Written.{compact_text}
use Rattle.just_cache.specs.declared.key.CacheKey.{CacheKey}
use Rattle.just_cache.specs.Members.{inputs}
use Rattle.just_cache.specs.Keys.{key_text, class_text, with_inputs, TakesInputs}
use Rattle.just_cache.specs.Readable.{IsReadable}
use Rattle.just_cache.proofs.Fields.{members_in}
use Rattle.just_cache.proofs.Objects.{same_object, same_key_in, without_inputs, inputs_forgotten}

-- two keys of one text have one class text
pub same_class : (k l : CacheKey) → key_text k ≡ key_text l → class_text k ≡ class_text l
same_class k l e =
    ap compact_text (sym (inputs_forgotten (inputs k.inputs) k) ∙ ap (λ d. object (without_inputs (members_in d))) (same_object k l e) ∙ inputs_forgotten (inputs l.inputs) l)

-- and are one key, where both can be read from their texts
pub same_key : (k l : CacheKey) → IsReadable k → IsReadable l → key_text k ≡ key_text l → k ≡ l
same_key k l p q e = same_key_in k l p q (same_object k l e)

-- where a class text takes inputs there stands `null`
pub none_there : (k : CacheKey) (at : ℕ) (class : List ℕ) → class ≡ class_text k → TakesInputs k at → with_inputs class at None ≡ class
none_there k at class same takes = subst (λ c. with_inputs c at None ≡ c) (sym same) (sym (takes None))

-- and with inputs in that place it is the text of the key with them
pub with_files : (k : CacheKey) (at : ℕ) (class : List ℕ) → class ≡ class_text k → TakesInputs k at → (files : Option (List (List ℕ × List ℕ))) → with_inputs class at files ≡ key_text (record k { inputs = files })
with_files k at class same takes files = ap (λ c. with_inputs c at files) same ∙ sym (takes files)
