-- What is known of patterns that were built.
use Rattle.std.specs.Prelude.{ℕ, ◌≡◌, ◌<◌, slice_index, Option, List}
use Rattle.std.specs.List.{list_any}
use Rattle.regex.specs.declared.string.regex.Regex.{Regex}
use Rattle.just_eval_words.specs.Patterns.{matches, matches_built}

abbrev pub AreBytes : List ℕ → Type 0
AreBytes text = (k : ℕ) → slice_index text k < 256

-- it matches what the pattern matches
abbrev pub IsBuilt : List ℕ → Option Regex → Type 0
IsBuilt pattern r = (text : List ℕ) → AreBytes text → matches_built r text ≡ matches pattern text

-- one of them matches where one of the patterns does
abbrev pub AreBuilt : List (List ℕ) → List (Option Regex) → Type 0
AreBuilt patterns all = (text : List ℕ) → AreBytes text → list_any (λ r. matches_built r text) all ≡ list_any (λ p. matches p text) patterns
