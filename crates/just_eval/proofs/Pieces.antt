-- The fragments of a line, one after the other.
use Rattle.std.proofs.Common.{◌≡◌, ℕ, suc, ◌+◌, ◌-◌, ◌<◌, ◌≤◌, ◌==◌, ◌≢◌, ◌⊎◌, inl, inr, Bool, true, false, List, [], ◌∷◌, ◌++◌, append_assoc, length, drop, get_or, drop-cons, refl, sym, ap, ◌∙◌, arith}
use Rattle.std.proofs.lemmas.Bool.Decides.{eqb_tells}
use Rattle.std.proofs.lemmas.List.{drop_all, length-drop}
use Rattle.just_lang_syntax.specs.declared.ast.Fragment.{Fragment}
use Rattle.just_eval.specs.Parts.{front_piece, end_piece, pieces}

abbrev is_nil : List Fragment → Bool
is_nil [] = true
is_nil (f ∷ fs) = false

step : (b : Bool) (f : Fragment) (rest : List Fragment) → pieces b (f ∷ rest) ≡ front_piece b (end_piece (is_nil rest) f) ∷ pieces false rest
step true f [] = refl
step false f [] = refl
step true f (g ∷ rest) = refl
step false f (g ∷ rest) = refl

same : (a b : ℕ) → a ≡ b → (a == b) ≡ true
same a b h = pick (eqb_tells a b)
  where
    pick : (((a == b) ≡ true) × (a ≡ b)) ⊎ (((a == b) ≡ false) × (a ≢ b)) → (a == b) ≡ true
    pick (inl p) = p.0
    pick (inr p) = absurd (p.1 h)

other : (a b : ℕ) → a ≢ b → (a == b) ≡ false
other a b h = pick (eqb_tells a b)
  where
    pick : (((a == b) ≡ true) × (a ≡ b)) ⊎ (((a == b) ≡ false) × (a ≢ b)) → (a == b) ≡ false
    pick (inl p) = absurd (h p.1)
    pick (inr p) = p.0

module _ (fs : List Fragment) (n : ℕ) (f : Fragment) (lt : n < length fs) (is : f ≡ get_or fs n f) where
  one : n + 1 ≡ suc n
  one = omega arith

  last : (n + 1 == length fs) ≡ is_nil (drop (suc n) fs)
  last = pick (drop (suc n) fs) refl
    where
      pick : (rest : List Fragment) → drop (suc n) fs ≡ rest → (n + 1 == length fs) ≡ is_nil rest
      pick [] e = let left : length fs - suc n ≡ 0 = sym (length-drop (suc n) fs) ∙ ap length e in same (n + 1) (length fs) (omega (arith, lt, left))
      pick (g ∷ rest) e = let left : length fs - suc n ≡ suc (length rest) = sym (length-drop (suc n) fs) ∙ ap length e in other (n + 1) (length fs) (λ h. omega (arith, lt, left, h))

  -- a piece more
  pub piece_more : (done : List Fragment) (b : Bool) → (done ++ front_piece b (end_piece (n + 1 == length fs) f) ∷ []) ++ pieces false (drop (n + 1) fs) ≡ done ++ pieces b (drop n fs)
  piece_more done b =
      append_assoc done (front_piece b (end_piece (n + 1 == length fs) f) ∷ []) (pieces false (drop (n + 1) fs))
      ∙ ap (λ k. done ++ front_piece b (end_piece (n + 1 == length fs) f) ∷ pieces false (drop k fs)) one
      ∙ ap (λ e. done ++ front_piece b (end_piece e f) ∷ pieces false (drop (suc n) fs)) last
      ∙ sym (ap (λ gs. done ++ pieces b gs) (drop-cons fs n f lt ∙ ap (λ z. z ∷ drop (suc n) fs) (sym is)) ∙ ap (λ gs. done ++ gs) (step b f (drop (suc n) fs)))

-- none is left
pub no_piece : (fs : List Fragment) (n : ℕ) (b : Bool) → length fs ≤ n → pieces b (drop n fs) ≡ []
no_piece fs n b le = ap (pieces b) (drop_all n fs le) ∙ none b
  where
    none : (b : Bool) → pieces b [] ≡ []
    none true = refl
    none false = refl
