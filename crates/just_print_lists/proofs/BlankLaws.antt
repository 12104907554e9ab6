-- Blanks, one more at a time.
use Rattle.std.proofs.Common.{◌≡◌, ℕ, zero, suc, ◌-◌, ◌<◌, List, [], ◌∷◌, ◌++◌, ap, ◌∙◌, arith, append_assoc}
use Rattle.just_print_lists.specs.Blanks.{blanks}

-- one of several blanks is added, the others follow
pub one_blank : (out : List ℕ) (left : ℕ) → 0 < left → (out ++ 32 ∷ []) ++ blanks (left - 1) ≡ out ++ blanks left
one_blank out zero h = absurd (omega (arith, h))
one_blank out (suc n) h =
    let same : suc n - 1 ≡ n = omega arith in
    append_assoc out (32 ∷ []) (blanks (suc n - 1)) ∙ ap (λ k. out ++ 32 ∷ blanks k) same
