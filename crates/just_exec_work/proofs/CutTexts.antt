-- A text that is gone through up to the first of some characters.
use Rattle.std.proofs.Common.{◌≡◌, ◌≢◌, ℕ, suc, ◌+◌, ◌<◌, ◌≤◌, ◌==◌, ◌||◌, ◌⊎◌, inl, inr, Bool, true, false, List, [], ◌∷◌, ◌++◌, length, take, drop, get_or, drop-cons, Some, None, append-nil, append_assoc, sym, ap, ◌∙◌, arith}
use Rattle.std.specs.Prelude.{if◌then◌else◌}
use Rattle.std.proofs.lemmas.Bool.Decides.{eqb_tells}
use Rattle.std.proofs.lemmas.List.{drop_all, take_all, take_more}
use Rattle.just_exec_work.specs.Cuts.{is_blank, is_newline, is_separator, before_first, behind_first}

module _ (p : ℕ → Bool) (t : List ℕ) (n : ℕ) (lt : n < length t) where
  one : n + 1 ≡ suc n
  one = omega arith

  here : drop n t ≡ get_or t n 0 ∷ drop (suc n) t
  here = drop-cons t n 0 lt

  before_here : before_first p (drop n t) ≡ (if p (get_or t n 0) then [] else get_or t n 0 ∷ before_first p (drop (suc n) t))
  before_here = ap (before_first p) here

  behind_here : behind_first p (drop n t) ≡ (if p (get_or t n 0) then Some (drop (suc n) t) else behind_first p (drop (suc n) t))
  behind_here = ap (behind_first p) here

  module _ (h : p (get_or t n 0) ≡ false) where
    pub before_more : take (n + 1) t ++ before_first p (drop (n + 1) t) ≡ take n t ++ before_first p (drop n t)
    before_more =
        let taken : take (n + 1) t ≡ take n t ++ get_or t n 0 ∷ [] = take_more t n 0 lt in
        ap (λ k. take (n + 1) t ++ before_first p (drop k t)) one ∙ ap (λ u. u ++ before_first p (drop (suc n) t)) taken ∙ append_assoc (take n t) (get_or t n 0 ∷ []) (before_first p (drop (suc n) t)) ∙ ap (λ u. take n t ++ u) (sym (before_here ∙ ap (λ b. if b then [] else get_or t n 0 ∷ before_first p (drop (suc n) t)) h))

    pub behind_more : behind_first p (drop (n + 1) t) ≡ behind_first p (drop n t)
    behind_more = ap (λ k. behind_first p (drop k t)) one ∙ sym (behind_here ∙ ap (λ b. if b then Some (drop (suc n) t) else behind_first p (drop (suc n) t)) h)

  module _ (h : p (get_or t n 0) ≡ true) where
    pub before_ends : take n t ++ before_first p (drop n t) ≡ take n t
    before_ends = ap (λ u. take n t ++ u) (before_here ∙ ap (λ b. if b then [] else get_or t n 0 ∷ before_first p (drop (suc n) t)) h) ∙ append-nil (take n t)

    pub behind_begins : behind_first p (drop n t) ≡ Some (drop (n + 1) t)
    behind_begins = behind_here ∙ ap (λ b. if b then Some (drop (suc n) t) else behind_first p (drop (suc n) t)) h ∙ ap (λ k. Some (drop k t)) (sym one)

pub all_before : (p : ℕ → Bool) (t : List ℕ) (n : ℕ) → length t ≤ n → take n t ++ before_first p (drop n t) ≡ t
all_before p t n le = ap (λ u. take n t ++ before_first p u) (drop_all n t le) ∙ append-nil (take n t) ∙ take_all n t le

pub none_behind : (p : ℕ → Bool) (t : List ℕ) (n : ℕ) → length t ≤ n → behind_first p (drop n t) ≡ None
none_behind p t n le = ap (behind_first p) (drop_all n t le)

-- ---- such characters are of one byte

either_ascii : (a b c : ℕ) → a < 128 → b < 128 → ((c == a) || (c == b)) ≡ true → c < 128
either_ascii a b c la lb h = pick (eqb_tells c a) (eqb_tells c b)
  where
    pick : (((c == a) ≡ true) × (c ≡ a)) ⊎ (((c == a) ≡ false) × (c ≢ a)) → (((c == b) ≡ true) × (c ≡ b)) ⊎ (((c == b) ≡ false) × (c ≢ b)) → c < 128
    pick (inl p) q = let e = p.1 in omega (arith, e)
    pick (inr p) (inl q) = let e = q.1 in omega (arith, e)
    pick (inr p) (inr q) = let no : true ≡ false = sym h ∙ ap (λ x. x || (c == b)) p.0 ∙ q.0 in absurd (let none : ⊥ = cc in none)

pub blank_ascii : (c : ℕ) → is_blank c ≡ true → c < 128
blank_ascii c h = either_ascii 32 9 c (omega arith) (omega arith) h

pub separator_ascii : (c : ℕ) → is_separator c ≡ true → c < 128
separator_ascii c h = either_ascii 47 92 c (omega arith) (omega arith) h

pub newline_ascii : (c : ℕ) → is_newline c ≡ true → c < 128
newline_ascii c h = pick (eqb_tells c 10)
  where
    pick : (((c == 10) ≡ true) × (c ≡ 10)) ⊎ (((c == 10) ≡ false) × (c ≢ 10)) → c < 128
    pick (inl p) = let e = p.1 in omega (arith, e)
    pick (inr p) = let no : true ≡ false = sym h ∙ p.0 in absurd (let none : ⊥ = cc in none)
