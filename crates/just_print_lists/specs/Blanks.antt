-- Blanks.
use Rattle.std.specs.Prelude.{ℕ, zero, suc, List, [], ◌∷◌}

abbrev pub blanks : ℕ → List ℕ
blanks zero = []
blanks (suc n) = 32 ∷ blanks n
