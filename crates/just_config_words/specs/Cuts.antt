-- What a text is cut into at a character.
use Rattle.std.specs.Prelude.{ℕ, Bool, false, ◌||◌, ◌==◌, if◌then◌else◌, List, [], ◌∷◌}
pub use Rattle.just_lang_read.specs.Prefixes.{behind_sign}

-- whether a text holds the character
abbrev pub holds : ℕ → List ℕ → Bool
holds x [] = false
holds x (c ∷ cs) = c == x || holds x cs

-- what stands before the first one; all where there is none
abbrev pub before_first : ℕ → List ℕ → List ℕ
before_first x [] = []
before_first x (c ∷ cs) = if c == x then [] else c ∷ before_first x cs

-- what stands behind the first one
abbrev pub behind_first : ℕ → List ℕ → List ℕ
behind_first x [] = []
behind_first x (c ∷ cs) = if c == x then cs else behind_first x cs

-- what stands between those characters
abbrev pub put_in_front : ℕ → List (List ℕ) → List (List ℕ)
put_in_front c [] = (c ∷ []) ∷ []
put_in_front c (t ∷ ts) = (c ∷ t) ∷ ts

abbrev pub parts : ℕ → List ℕ → List (List ℕ)
parts x [] = [] ∷ []
parts x (c ∷ cs) = if c == x then [] ∷ parts x cs else put_in_front c (parts x cs)
