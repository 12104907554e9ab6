-- The hashes of paths and of keys in rounds: numbers by which they are kept, which are seldom one for two of them.
use Rattle.std.specs.Prelude.{ℕ, suc, ◌+◌, ◌*◌, ◌%◌, ◌^◌, List, Option, Some, None}
use Rattle.std.specs.List.{fold}
use Rattle.just_lang_types.specs.declared.key.Value.{Value}
use Rattle.just_lang_types.specs.declared.place.Place.{Place}
use Rattle.just_lang_types.specs.declared.recipe.Modulepath.{Modulepath}

-- a hash with a digit more, of 257
unfoldable pub with_digit : ℕ → ℕ → ℕ
with_digit hash d = ((hash * 257) % 2 ^ 64 + d) % 2 ^ 64

-- with the bytes of a text, and its end
abbrev pub with_text : ℕ → List ℕ → ℕ
with_text hash text = with_digit (fold with_digit hash text) 256

-- with texts, and with values
abbrev pub with_texts : ℕ → List (List ℕ) → ℕ
with_texts hash texts = fold with_text hash texts

abbrev pub with_values : ℕ → List Value → ℕ
with_values hash values = fold (λ m v. with_digit (with_texts m v.elements) 256) hash values

abbrev pub path_hash : Modulepath → ℕ
path_hash path = with_texts 0 path.components

-- the digit of a round
abbrev pub round_digit : Option ℕ → ℕ
round_digit None = 0
round_digit (Some n) = suc n

abbrev pub place_hash : Place → ℕ
place_hash x = with_values (with_texts (round_digit x.round) x.key.recipe.components) x.key.arguments
