-- The numbers of the names in an expression, one after the other.
use Rattle.std.proofs.Common.{◌≡◌, ℕ, suc, ◌+◌, ◌<◌, Bor, List, [], ◌∷◌, ◌++◌, append-nil, append_assoc, length, get_or, drop, drop-cons, map, Option, Some, None, refl, sym, ap, ◌∙◌, arith}
use Rattle.std.specs.List.{filter_map, cons_option}

-- a number is added where there is one
pub number_found : (old new : List ℕ) (o : Option ℕ) (n : ℕ) → o ≡ Some n → new ≡ old ++ n ∷ [] → new ≡ old ++ cons_option o []
number_found old new o n found is = is ∙ ap (λ p. old ++ cons_option p []) (sym found)

pub number_absent : (old : List ℕ) (o : Option ℕ) → o ≡ None → old ≡ old ++ cons_option o []
number_absent old o none = sym (ap (λ p. old ++ cons_option p []) none ∙ append-nil old)

one_kept : (o : Option ℕ) (ns : List ℕ) → cons_option o [] ++ ns ≡ cons_option o ns
one_kept None ns = refl
one_kept (Some n) ns = refl

-- the number of a name more
pub target_more : (f : List ℕ → Option ℕ) (names : List (Bor (List ℕ))) (n : ℕ) (name : Bor (List ℕ)) → n < length names → name ≡ get_or names n name
    → (all old new : List ℕ) → new ≡ old ++ cons_option (f name.now) [] → old ++ filter_map f (map (λ m. m.now) (drop n names)) ≡ all → new ++ filter_map f (map (λ m. m.now) (drop (n + 1) names)) ≡ all
target_more f names n name lt is all old new more before =
    let one : n + 1 ≡ suc n = omega arith in
    let here : drop n names ≡ name ∷ drop (suc n) names = drop-cons names n name lt ∙ ap (λ z. z ∷ drop (suc n) names) (sym is) in
    let rest = filter_map f (map (λ m. m.now) (drop (suc n) names)) in
    ap (λ k. new ++ filter_map f (map (λ m. m.now) (drop k names))) one ∙ ap (λ ns. ns ++ rest) more ∙ append_assoc old (cons_option (f name.now) []) rest ∙ ap (λ ns. old ++ ns) (one_kept (f name.now) rest)
    ∙ sym (ap (λ ms. old ++ filter_map f (map (λ m. m.now) ms)) here) ∙ before
