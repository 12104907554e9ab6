-- Lists that a loop collects: what it has so far, and what is still to come.
use Rattle.std.proofs.Common.{◌≡◌, ◌<◌, ◌+◌, ℕ, suc, List, [], ◌∷◌, ◌++◌, map, drop, length, get_or, Option, Some, None, refl, sym, ◌∙◌, ap, add-one, drop-cons}
use Rattle.std.specs.Prelude.{filter_map}
use Rattle.std.specs.List.{cons_option}

here : {X : Type 0} (xs : List X) (i : ℕ) (x : X) → i < length xs → x ≡ get_or xs i x → drop i xs ≡ x ∷ drop (i + 1) xs
here xs i x less is = rw (add-one, drop-cons xs i x) (ap (λ y. y ∷ drop (suc i) xs) (sym is))

one_more : {Y Z : Type 0} (g : Y → Z) (ys : List Y) (y : Y) (zs : List Z) → map g (ys ++ y ∷ []) ++ zs ≡ map g ys ++ (g y ∷ zs)
one_more g [] y zs = refl
one_more g (x ∷ ys) y zs = ap (λ k. g x ∷ k) (one_more g ys y zs)

-- one of each
pub each : {X Y Z : Type 0} (g : Y → Z) (f : X → Z) (ys : List Y) (y : Y) (xs : List X) (i : ℕ) (x : X) → i < length xs → x ≡ get_or xs i x → g y ≡ f x
    → map g ys ++ map f (drop i xs) ≡ map f xs → map g (ys ++ y ∷ []) ++ map f (drop (i + 1) xs) ≡ map f xs
each g f ys y xs i x less is e s =
    one_more g ys y (map f (drop (i + 1) xs)) ∙ ap (λ k. map g ys ++ (k ∷ map f (drop (i + 1) xs))) e
    ∙ ap (λ ws. map g ys ++ map f ws) (sym (here xs i x less is)) ∙ s

-- one of those that give something
pub given : {X Y Z : Type 0} (g : Y → Z) (f : X → Option Z) (ys : List Y) (y : Y) (xs : List X) (i : ℕ) (x : X) → i < length xs → x ≡ get_or xs i x → Some (g y) ≡ f x
    → map g ys ++ filter_map f (drop i xs) ≡ filter_map f xs → map g (ys ++ y ∷ []) ++ filter_map f (drop (i + 1) xs) ≡ filter_map f xs
given g f ys y xs i x less is e s =
    one_more g ys y (filter_map f (drop (i + 1) xs)) ∙ ap (λ k. map g ys ++ cons_option k (filter_map f (drop (i + 1) xs))) e
    ∙ ap (λ ws. map g ys ++ filter_map f ws) (sym (here xs i x less is)) ∙ s

-- one that gives nothing
pub passed : {X Z : Type 0} (zs : List Z) (f : X → Option Z) (xs : List X) (i : ℕ) (x : X) → i < length xs → x ≡ get_or xs i x → None ≡ f x
    → zs ++ filter_map f (drop i xs) ≡ filter_map f xs → zs ++ filter_map f (drop (i + 1) xs) ≡ filter_map f xs
passed zs f xs i x less is e s =
    ap (λ k. zs ++ cons_option k (filter_map f (drop (i + 1) xs))) e ∙ ap (λ ws. zs ++ filter_map f ws) (sym (here xs i x less is)) ∙ s
