-- A text that is gone through byte by byte.
use Rattle.std.proofs.Common.{◌≡◌, ℕ, suc, ◌+◌, ◌<◌, ◌≤◌, Bool, true, false, cond, List, ◌∷◌, length, drop, get_or, drop-cons, sym, ap, ◌∙◌, arith}
use Rattle.std.specs.List.{prefix_len}
use Rattle.std.proofs.lemmas.List.{drop_all}

module _ (p : ℕ → Bool) (t : List ℕ) (n : ℕ) (lt : n < length t) where
  one : n + 1 ≡ suc n
  one = omega arith

  here : drop n t ≡ get_or t n 0 ∷ drop (n + 1) t
  here = drop-cons t n 0 lt ∙ ap (λ k. get_or t n 0 ∷ drop k t) (sym one)

  front_here : prefix_len p (drop n t) ≡ cond (p (get_or t n 0)) (1 + prefix_len p (drop (n + 1) t)) 0
  front_here = ap (prefix_len p) here

  module _ (h : p (get_or t n 0) ≡ true) where
    pub front_more : n + 1 + prefix_len p (drop (n + 1) t) ≡ n + prefix_len p (drop n t)
    front_more =
        let so : prefix_len p (drop n t) ≡ 1 + prefix_len p (drop (n + 1) t) = front_here ∙ ap (λ b. cond b (1 + prefix_len p (drop (n + 1) t)) 0) h in
        omega (arith, so)

  module _ (h : p (get_or t n 0) ≡ false) where
    pub front_ends : n + prefix_len p (drop n t) ≡ n
    front_ends =
        let so : prefix_len p (drop n t) ≡ 0 = front_here ∙ ap (λ b. cond b (1 + prefix_len p (drop (n + 1) t)) 0) h in
        omega (arith, so)

pub front_all : (p : ℕ → Bool) (t : List ℕ) (n : ℕ) → length t ≤ n → n + prefix_len p (drop n t) ≡ n
front_all p t n le = let so : prefix_len p (drop n t) ≡ 0 = ap (prefix_len p) (drop_all n t le) in omega (arith, so)
