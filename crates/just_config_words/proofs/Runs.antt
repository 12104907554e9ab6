-- The words in front that are values.
use Rattle.std.proofs.Common.{◌≡◌, ◌∙◌, ℕ, zero, suc, ◌≤◌, ◌||◌, Bool, true, false, List, [], ◌∷◌, ap, length, take, min, if◌then◌else◌, arith}
use Rattle.just_config_words.specs.Parsed.{is_value, run}

within_step : (any b : Bool) (w : List ℕ) (ws : List (List ℕ)) → length (run any ws) ≤ length ws → length (if b then w ∷ run any ws else []) ≤ length (w ∷ ws)
within_step any true w ws h = omega (arith, h)
within_step any false w ws h = omega arith

pub run_within : (any : Bool) (ws : List (List ℕ)) → length (run any ws) ≤ length ws
run_within any [] = omega arith
run_within any (w ∷ ws) = within_step any (any || is_value w) w ws (run_within any ws)

front_step : (any b : Bool) (w : List ℕ) (ws : List (List ℕ)) (n : ℕ) → take n (run any ws) ≡ take (min n (length (run any ws))) ws
    → take (suc n) (if b then w ∷ run any ws else []) ≡ take (min (suc n) (length (if b then w ∷ run any ws else []))) (w ∷ ws)
front_step any true w ws n h =
    let e : suc (min n (length (run any ws))) ≡ min (suc n) (suc (length (run any ws))) = omega arith in
    ap (λ (t : List (List ℕ)). w ∷ t) h ∙ ap (λ (k : ℕ). take k (w ∷ ws)) e
front_step any false w ws n h =
    let e : 0 ≡ min (suc n) 0 = omega arith in
    ap (λ (k : ℕ). take k (w ∷ ws)) e

-- so many words of the run are so many of all words
pub run_front : (any : Bool) (ws : List (List ℕ)) (n : ℕ) → take n (run any ws) ≡ take (min n (length (run any ws))) ws
run_front any [] zero = let e : 0 ≡ min 0 0 = omega arith in ap (λ (k : ℕ). take {A = List ℕ} k []) e
run_front any [] (suc n) = let e : 0 ≡ min (suc n) 0 = omega arith in ap (λ (k : ℕ). take {A = List ℕ} k []) e
run_front any (w ∷ ws) zero = let e : 0 ≡ min 0 (length (run any (w ∷ ws))) = omega arith in ap (λ (k : ℕ). take k (w ∷ ws)) e
run_front any (w ∷ ws) (suc n) = front_step any (any || is_value w) w ws n (run_front any ws n)
