-- Paths without their last names.
use Rattle.std.proofs.Common.{◌≡◌, ℕ, List, [], ◌∷◌, ◌++◌, length, refl, ap, ◌∙◌, arith}
use Rattle.std.specs.Prelude.{Some, false, bytes_eq}
use Rattle.std.specs.Option.{option_map_or}
use Rattle.std.specs.Cmp.Lexicographic.{pointwise}
use Rattle.just_lang_justfile.specs.Trees.{front, without_last, is_within}

front_is : (x : List ℕ) (xs : List (List ℕ)) (last : List ℕ) → front x (xs ++ last ∷ []) ≡ x ∷ xs
front_is x [] last = refl
front_is x (y ∷ ys) last = ap (λ l. x ∷ l) (front_is y ys last)

without_last_is : (xs : List (List ℕ)) (last : List ℕ) → without_last (xs ++ last ∷ []) ≡ Some xs
without_last_is [] last = refl
without_last_is (x ∷ xs) last = ap Some (front_is x xs last)

-- a path is within another where this one is all before its last name
pub within_is : (path inner front_of : List (List ℕ)) (last : List ℕ) → inner ≡ front_of ++ last ∷ [] → is_within path inner ≡ pointwise bytes_eq path front_of
within_is path inner front_of last e =
    ap (λ i. option_map_or (pointwise bytes_eq path) (without_last i) false) e ∙ ap (λ o. option_map_or (pointwise bytes_eq path) o false) (without_last_is front_of last)

pub within_none : (path inner : List (List ℕ)) → length inner ≡ 0 → is_within path inner ≡ false
within_none path [] h = refl
within_none path (x ∷ xs) h = absurd (omega (arith, h))
