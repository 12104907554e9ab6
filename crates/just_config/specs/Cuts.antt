-- What a text is cut into at the last one of a character.
use Rattle.std.specs.Prelude.{ℕ, ◌==◌, if◌then◌else◌, List, [], ◌∷◌}
use Rattle.just_config_words.specs.Cuts.{holds}

-- what stands up to the last one, with it
abbrev pub up_to_last : ℕ → List ℕ → List ℕ
up_to_last x [] = []
up_to_last x (c ∷ cs) = if holds x cs then c ∷ up_to_last x cs else (if c == x then c ∷ [] else [])

-- what stands behind the last one; all where there is none
abbrev pub behind_last : ℕ → List ℕ → List ℕ
behind_last x [] = []
behind_last x (c ∷ cs) = if holds x cs then behind_last x cs else (if c == x then cs else c ∷ cs)
