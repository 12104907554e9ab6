-- Lists of bytes: their heads and tails, and bytes that don't stand in them.
use Rattle.std.proofs.Common.{◌≡◌, ◌≢◌, ℕ, suc, ◌<◌, ◌++◌, ◌==◌, List, [], ◌∷◌, true, false, refl, length, get_or, arith}
use Rattle.std.proofs.lemmas.Bool.Decides.{nat_tests}
use Rattle.just_expand.specs.Pieces.{Lacks}

-- equal lists have equal tails
pub same_tail : (x y : ℕ) (xs ys : List ℕ) → x ∷ xs ≡ y ∷ ys → xs ≡ ys
same_tail x y xs ys e = cc

-- and equal heads
pub same_head : (x y : ℕ) (xs ys : List ℕ) → x ∷ xs ≡ y ∷ ys → x ≡ y
same_head x y xs ys e = cc

-- of two numbers that are in order, one is not the other
pub less_apart : (x y : ℕ) → x < y → x ≢ y
less_apart x y l = λ e. omega (arith, e, l)

-- a list whose length is not 0 is not empty
pub is_not_empty : (b : List ℕ) → (length b == 0) ≡ false → b ≢ []
is_not_empty [] e = λ h. cc
is_not_empty (x ∷ xs) e = λ h. cc

-- one whose length is 0 is
pub is_empty : (b : List ℕ) → (length b == 0) ≡ true → b ≡ []
is_empty [] e = refl
is_empty (x ∷ xs) e = absurd (grind (arith, nat_tests))

-- a byte that stands at no index is lacking
pub lacks_from_index : (c : ℕ) (xs : List ℕ) → ((i : ℕ) → i < length xs → get_or xs i 0 ≢ c) → Lacks c xs
lacks_from_index c [] h = tt
lacks_from_index c (x ∷ xs) h = (h 0 (omega arith), lacks_from_index c xs (λ i l. h (suc i) (omega (arith, l))))

-- a byte that the whole lacks, its front lacks
pub lacks_left : (c : ℕ) (xs ys : List ℕ) → Lacks c (xs ++ ys) → Lacks c xs
lacks_left c [] ys h = tt
lacks_left c (x ∷ xs) ys h = (h.0, lacks_left c xs ys h.1)

-- and its end
pub lacks_right : (c : ℕ) (xs ys : List ℕ) → Lacks c (xs ++ ys) → Lacks c ys
lacks_right c [] ys h = h
lacks_right c (x ∷ xs) ys h = lacks_right c xs ys h.1

-- a byte that both parts lack, the whole lacks
pub lacks_append : (c : ℕ) (xs ys : List ℕ) → Lacks c xs → Lacks c ys → Lacks c (xs ++ ys)
lacks_append c [] ys h k = k
lacks_append c (x ∷ xs) ys h k = (h.0, lacks_append c xs ys h.1 k)
