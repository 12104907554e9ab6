-- What is written item by item.
use Rattle.std.proofs.Common.{◌≡◌, ◌∙◌, ℕ, suc, ◌+◌, ◌<◌, List, ◌∷◌, ◌++◌, drop, drop-cons, flat_map, length, get_or, ap, sym, append_assoc, arith}

-- what is written of the items from one on is what is written of it and of those behind it
pub text_here : {A : Type 0} (f : A → List ℕ) (n : ℕ) (x : A) (xs : List A) (done : List ℕ) → n < length xs → x ≡ get_or xs n x → (done ++ f x) ++ flat_map f (drop (n + 1) xs) ≡ done ++ flat_map f (drop n xs)
text_here f n x xs done lt is =
    let one : n + 1 ≡ suc n = omega arith in
    append_assoc done (f x) (flat_map f (drop (n + 1) xs)) ∙ ap (λ k. done ++ (f x ++ flat_map f (drop k xs))) one ∙ ap (λ ys. done ++ flat_map f ys) (ap (λ y. y ∷ drop (suc n) xs) is ∙ sym (drop-cons xs n x lt))
