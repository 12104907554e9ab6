-- What holds below a number, and of that number, holds below the next.
use Rattle.std.proofs.Common.{◌≡◌, ◌≢◌, ℕ, ◌+◌, ◌<◌, ◌==◌, Bool, true, false, refl, sym, subst, arith, eqb-true, eq-eqb}

-- what holds of the others and of the node holds of each
pub each_or : (P : ℕ → Type 0) (m n : ℕ) (b : Bool) → (m == n) ≡ b → (m ≢ n → P m) → P n → P m
each_or P m n true q other here = subst P (sym (eqb-true m n q)) here
each_or P m n false q other here = other (λ e. absurd (cc (eq-eqb m n e, q)))

-- what holds of each lesser number and of the number holds of each below the next
pub below_next : (P : ℕ → Type 0) (k : ℕ) → ((m : ℕ) → m < k → P m) → P k → (m : ℕ) → m < k + 1 → P m
below_next P k old here m lt = each_or P m k (m == k) refl (λ ne. old m (omega (arith, lt, ne))) here
