-- The nodes of a chain of three.
use Rattle.std.proofs.Common.{◌≡◌, ℕ, zero, suc, ◌<◌, List, [], ◌∷◌, length, refl, subst, arith}
use Rattle.std.specs.List.{Contains}

each_below : (v : ℕ) → v < 3 → Contains {X = ℕ} (2 ∷ 1 ∷ 0 ∷ []) v
each_below zero l = (2, omega arith, refl)
each_below (suc zero) l = (1, omega arith, refl)
each_below (suc (suc zero)) l = (0, omega arith, refl)
each_below (suc (suc (suc v))) l = absurd (omega arith)

-- the list has each node of the chain
pub each_listed : (edges : List (List ℕ)) → edges ≡ (1 ∷ []) ∷ (2 ∷ []) ∷ [] ∷ [] → (v : ℕ) → v < length edges → Contains {X = ℕ} (2 ∷ 1 ∷ 0 ∷ []) v
each_listed edges same v l = each_below v (subst (λ e. v < length e) same l)
