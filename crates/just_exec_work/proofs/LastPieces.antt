-- A text that is gone through for the last of some characters.
use Rattle.std.proofs.Common.{◌≡◌, ℕ, suc, ◌+◌, ◌<◌, ◌≤◌, ◌||◌, Bool, true, false, List, [], ◌∷◌, length, drop, get_or, drop-cons, refl, sym, ap, ◌∙◌, arith}
use Rattle.std.specs.Prelude.{if◌then◌else◌}
use Rattle.std.specs.List.{list_any}
use Rattle.std.proofs.lemmas.List.{drop_all}
use Rattle.just_exec_work.specs.Cuts.{behind_last}

-- neither of two tests
pub neither : (a b : Bool) → (a || b) ≡ false → (a ≡ false) × (b ≡ false)
neither true b h = absurd (let none : ⊥ = cc in none)
neither false true h = absurd (let none : ⊥ = cc in none)
neither false false h = (refl, refl)

module _ (p : ℕ → Bool) where
  -- what is behind the last one, where it is behind from as far as the first n characters go
  abbrev pub piece_of : ℕ → ℕ → List ℕ → List ℕ
  piece_of from n t = if list_any p (drop n t) then behind_last p (drop n t) else drop from t

  without : (t : List ℕ) → list_any p t ≡ false → behind_last p t ≡ t
  without [] h = refl
  without (c ∷ cs) h =
      let apart = neither (p c) (list_any p cs) h in
      ap (λ x. if x then behind_last p cs else (if p c then cs else c ∷ cs)) apart.1 ∙ ap (λ x. if x then cs else c ∷ cs) apart.0

  pub piece_begins : (t : List ℕ) → piece_of 0 0 t ≡ behind_last p t
  piece_begins t = pick (list_any p t) refl
    where
      pick : (b : Bool) → list_any p t ≡ b → (if list_any p t then behind_last p t else t) ≡ behind_last p t
      pick true e = ap (λ x. if x then behind_last p t else t) e
      pick false e = ap (λ x. if x then behind_last p t else t) e ∙ sym (without t e)

  pub piece_ends : (t : List ℕ) (from n : ℕ) → length t ≤ n → piece_of from n t ≡ drop from t
  piece_ends t from n le = ap (λ u. if list_any p u then behind_last p u else drop from t) (drop_all n t le)

  module _ (t : List ℕ) (from n : ℕ) (lt : n < length t) where
    one : n + 1 ≡ suc n
    one = omega arith

    rest : List ℕ
    rest = drop (suc n) t

    here : piece_of from n t ≡ (if p (get_or t n 0) || list_any p (drop (suc n) t) then (if list_any p (drop (suc n) t) then behind_last p (drop (suc n) t) else (if p (get_or t n 0) then drop (suc n) t else get_or t n 0 ∷ drop (suc n) t)) else drop from t)
    here = ap (λ u. if list_any p u then behind_last p u else drop from t) (drop-cons t n 0 lt)

    pub piece_after : p (get_or t n 0) ≡ true → piece_of (n + 1) (n + 1) t ≡ piece_of from n t
    piece_after h =
        ap (λ k. piece_of k k t) one ∙ sym (here ∙ ap (λ b. if b || list_any p (drop (suc n) t) then (if list_any p (drop (suc n) t) then behind_last p (drop (suc n) t) else (if b then drop (suc n) t else get_or t n 0 ∷ drop (suc n) t)) else drop from t) h)

    pub piece_more : p (get_or t n 0) ≡ false → piece_of from (n + 1) t ≡ piece_of from n t
    piece_more h =
        ap (λ k. piece_of from k t) one ∙ sym (here ∙ ap (λ b. if b || list_any p (drop (suc n) t) then (if list_any p (drop (suc n) t) then behind_last p (drop (suc n) t) else (if b then drop (suc n) t else get_or t n 0 ∷ drop (suc n) t)) else drop from t) h ∙ same (list_any p (drop (suc n) t)))
      where
        same : (d : Bool) → (if d then (if d then behind_last p (drop (suc n) t) else get_or t n 0 ∷ drop (suc n) t) else drop from t) ≡ (if d then behind_last p (drop (suc n) t) else drop from t)
        same true = refl
        same false = refl
