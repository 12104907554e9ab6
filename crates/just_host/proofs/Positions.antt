-- The first place at which a test passes.
use Rattle.std.proofs.Common.{◌≡◌, ℕ, ◌+◌, ◌<◌, Bool, true, false, cond, List, [], ◌∷◌, length, get_or, drop, Option, Some, ap, ◌∙◌, arith}
use Rattle.std.proofs.lemmas.List.{at_drop_more}
use Rattle.std.specs.List.{position_from}

-- the next one is asked
pub position_more : {X : Type 0} (t : X → Bool) (i : ℕ) (xs : List X) (d : X) → i < length xs → position_from t i (drop i xs) ≡ cond (t (get_or xs i d)) (Some i) (position_from t (i + 1) (drop (i + 1) xs))
position_more t i xs d h = at_drop_more (position_from t i) xs i d h

-- the next one passes
pub position_hit : {X : Type 0} (t : X → Bool) (i : ℕ) (xs : List X) (d : X) → i < length xs → t (get_or xs i d) ≡ true → position_from t i (drop i xs) ≡ Some i
position_hit t i xs d h passes = position_more t i xs d h ∙ ap (λ b. cond b (Some i) (position_from t (i + 1) (drop (i + 1) xs))) passes

-- the next one doesn't pass
pub position_pass : {X : Type 0} (t : X → Bool) (i : ℕ) (xs : List X) (d : X) → i < length xs → t (get_or xs i d) ≡ false → position_from t i (drop i xs) ≡ position_from t (i + 1) (drop (i + 1) xs)
position_pass t i xs d h fails = position_more t i xs d h ∙ ap (λ b. cond b (Some i) (position_from t (i + 1) (drop (i + 1) xs))) fails

inside_case : (b : Bool) (i n k : ℕ) (r : Option ℕ) → cond b (Some i) r ≡ Some k → (r ≡ Some k → k < i + 1 + n) → k < i + (n + 1)
inside_case true i n k r e h = let same : i ≡ k = cc in omega (arith, same)
inside_case false i n k r e h = omega (arith, h e)

-- the place that is found is one of the list
pub position_inside : {X : Type 0} (t : X → Bool) (i : ℕ) (xs : List X) (k : ℕ) → position_from t i xs ≡ Some k → k < i + length xs
position_inside t i [] k e = absurd cc
position_inside t i (x ∷ xs) k e =
    let inside : k < i + (length xs + 1) = inside_case (t x) i (length xs) k (position_from t (i + 1) xs) e (λ later. position_inside t (i + 1) xs k later) in
    omega (arith, inside)
