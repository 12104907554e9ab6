-- The last name of a path with the names in front of it, and texts that are left out where they are empty.
use Rattle.std.proofs.Common.{◌≡◌, ℕ, ◌==◌, true, false, List, [], ◌∷◌, ◌++◌, length, refl, sym, ap, ◌∙◌, arith}
use Rattle.std.specs.Prelude.{Option, Some, None}
use Rattle.just_config.specs.Config.{front_of, last_of, override_at, as_override}
use Rattle.just_config.specs.ModulePaths.{unless_empty}

pub front_push : (ns : List (List ℕ)) (n : List ℕ) → front_of (ns ++ (n ∷ [])) ≡ ns
front_push [] n = refl
front_push (m ∷ []) n = refl
front_push (m ∷ (o ∷ ms)) n = ap (λ (ts : List (List ℕ)). m ∷ ts) (front_push (o ∷ ms) n)

pub last_push : (ns : List (List ℕ)) (n : List ℕ) → last_of (ns ++ (n ∷ [])) ≡ Some n
last_push [] n = refl
last_push (m ∷ []) n = refl
last_push (m ∷ (o ∷ ms)) n = last_push (o ∷ ms) n

-- the override of a path
pub override_last : (ns ms : List (List ℕ)) (n v : List ℕ) → ns ≡ ms ++ (n ∷ []) → Some (record { «module» = record { components = ms }; name = n; value = v }) ≡ as_override (Some ns) v
override_last ns ms n v e =
    let step : as_override (Some (ms ++ (n ∷ []))) v ≡ Some (record { «module» = record { components = ms }; name = n; value = v }) =
    ap (λ (x : Option (List ℕ)). override_at (front_of (ms ++ (n ∷ []))) x v) (last_push ms n) ∙ ap (λ (f : List (List ℕ)). override_at f (Some n) v) (front_push ms n) in
    sym (ap (λ (xs : List (List ℕ)). as_override (Some xs) v) e ∙ step)

pub none_last : (ns : List (List ℕ)) (v : List ℕ) → length ns ≡ 0 → None ≡ as_override (Some ns) v
none_last [] v h = refl
none_last (n ∷ ns) v h = grind arith

pub nothing_empty : (t : List ℕ) → (length t == 0) ≡ true → unless_empty t ≡ []
nothing_empty [] h = refl
nothing_empty (c ∷ cs) h = grind arith

pub one_full : (t : List ℕ) → (length t == 0) ≡ false → unless_empty t ≡ t ∷ []
one_full [] h = grind arith
one_full (c ∷ cs) h = refl
