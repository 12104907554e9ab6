-- The keys that can be read from their texts, and what a text fixes.
use Rattle.std.specs.Prelude.{◌≡◌, ◌≢◌, ℕ, List, [], map, All, Some, IfSome}
use Rattle.std.specs.Ordering.{nat_cmp}
use Rattle.std.specs.Cmp.Lexicographic.{slice_cmp}
use Rattle.std.specs.List.Sorted.{IsStrictlySortedBy}
use Rattle.just_lang_types.specs.Names.{IsName}
use Rattle.just_cache.specs.declared.key.CacheKey.{CacheKey}
use Rattle.just_cache.specs.Keys.{key_text, class_text}

-- the names rise in byte order, so each stands once: the pairs of a map
abbrev pub AreInOrder : {A : Type 0} → List (List ℕ × A) → Type 0
AreInOrder pairs = IsStrictlySortedBy (slice_cmp nat_cmp) (map (λ p. p.0) pairs)

-- the path consists of names, the inputs aren't an empty map, and both maps are in order
pub record IsReadable (k : CacheKey) : Type 0 where
  pub path : All IsName k.recipe.components
  pub some_input : k.inputs ≢ Some []
  pub environment : AreInOrder k.environment
  pub inputs : IfSome k.inputs AreInOrder

-- each key of that text has that class text
abbrev pub FixesClass : List ℕ → List ℕ → Type 0
FixesClass text class = (k : CacheKey) → key_text k ≡ text → class_text k ≡ class

-- where that key can be read from its text, no other such key has that text
abbrev pub FixesKey : List ℕ → CacheKey → Type 0
FixesKey text key = IsReadable key → (k : CacheKey) → IsReadable k → key_text k ≡ text → k ≡ key
