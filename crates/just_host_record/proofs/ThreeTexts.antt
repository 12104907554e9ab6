-- Texts one behind the other.
use Rattle.std.proofs.Common.{◌≡◌, ℕ, List, ◌++◌, append_assoc, ap, ◌∙◌}

-- a text behind which two others were put, one after the other
pub three_texts : (first mid whole second third : List ℕ) → mid ≡ first ++ second → whole ≡ mid ++ third → whole ≡ first ++ (second ++ third)
three_texts first mid whole second third g h = h ∙ ap (λ u. u ++ third) g ∙ append_assoc first second third
