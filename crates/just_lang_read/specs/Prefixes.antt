-- Texts without the character that they begin with.
use Rattle.std.specs.Prelude.{ℕ, ◌==◌, if◌then◌else◌, List, [], ◌∷◌, Option, Some, None}

-- what stands behind the character, where a text begins with it
abbrev pub behind_sign : ℕ → List ℕ → Option (List ℕ)
behind_sign x [] = None
behind_sign x (c ∷ cs) = if c == x then Some cs else None
