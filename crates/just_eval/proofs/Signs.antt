-- The sigils in front of a text, one after the other.
use Rattle.std.proofs.Common.{◌≡◌, ◌≢◌, ℕ, suc, ◌+◌, ◌<◌, ◌≤◌, ◌==◌, ◌&&◌, ◌⊎◌, inl, inr, Bool, true, false, List, [], ◌∷◌, length, drop, get_or, drop-cons, Option, Some, None, sym, ap, ◌∙◌, arith}
use Rattle.std.specs.Prelude.{not, if◌then◌else◌}
use Rattle.std.proofs.lemmas.Bool.Decides.{eqb_tells}
use Rattle.std.proofs.lemmas.List.{drop_all}
use Rattle.just_eval.specs.declared.sigils.Sigils.{Sigils}
use Rattle.just_eval.specs.Bodies.{with_sigil, reading_on, split_sigils}

module _ (guards : Bool) (s : Sigils) (t : List ℕ) (n : ℕ) where
  here : n < length t → split_sigils guards s (drop n t) ≡ reading_on (with_sigil guards s (get_or t n 0)) (λ m. split_sigils guards m (drop (suc n) t)) (s, get_or t n 0 ∷ drop (suc n) t)
  here lt = ap (split_sigils guards s) (drop-cons t n 0 lt)

  pub sign_more : (m : Sigils) → n < length t → with_sigil guards s (get_or t n 0) ≡ Some m → split_sigils guards m (drop (n + 1) t) ≡ split_sigils guards s (drop n t)
  sign_more m lt h =
      let one : n + 1 ≡ suc n = omega arith in
      ap (λ k. split_sigils guards m (drop k t)) one ∙ sym (here lt ∙ ap (λ o. reading_on o (λ r. split_sigils guards r (drop (suc n) t)) (s, get_or t n 0 ∷ drop (suc n) t)) h)

  pub no_sign : n < length t → with_sigil guards s (get_or t n 0) ≡ None → split_sigils guards s (drop n t) ≡ (s, drop n t)
  no_sign lt h =
      here lt ∙ ap (λ o. reading_on o (λ r. split_sigils guards r (drop (suc n) t)) (s, get_or t n 0 ∷ drop (suc n) t)) h ∙ ap (λ u. (s, u)) (sym (drop-cons t n 0 lt))

  pub all_signs : length t ≤ n → split_sigils guards s (drop n t) ≡ (s, [])
  all_signs le = ap (split_sigils guards s) (drop_all n t le)

-- by whether the character is one of the three
abbrev sigil_by : Bool → Sigils → Bool → Bool → Bool → Option Sigils
sigil_by guards s at dash mark =
    if at && not s.quiet then Some (record { quiet = true; forgiving = s.forgiving; guard = s.guard })
    else (if dash && not s.forgiving then Some (record { quiet = s.quiet; forgiving = true; guard = s.guard })
    else (if mark && (guards && not s.guard) then Some (record { quiet = s.quiet; forgiving = s.forgiving; guard = true }) else None))

pub sign_ascii : (guards : Bool) (s m : Sigils) (c : ℕ) → with_sigil guards s c ≡ Some m → c < 128
sign_ascii guards s m c h = pick (eqb_tells c 64) (eqb_tells c 45) (eqb_tells c 63)
  where
    pick : (((c == 64) ≡ true) × (c ≡ 64)) ⊎ (((c == 64) ≡ false) × (c ≢ 64)) → (((c == 45) ≡ true) × (c ≡ 45)) ⊎ (((c == 45) ≡ false) × (c ≢ 45)) → (((c == 63) ≡ true) × (c ≡ 63)) ⊎ (((c == 63) ≡ false) × (c ≢ 63)) → c < 128
    pick (inl p) q r = let e = p.1 in omega (arith, e)
    pick (inr p) (inl q) r = let e = q.1 in omega (arith, e)
    pick (inr p) (inr q) (inl r) = let e = r.1 in omega (arith, e)
    pick (inr p) (inr q) (inr r) =
        let no : Some m ≡ None = sym h ∙ ap (λ b. sigil_by guards s b (c == 45) (c == 63)) p.0 ∙ ap (λ b. sigil_by guards s false b (c == 63)) q.0 ∙ ap (λ b. sigil_by guards s false false b) r.0 in absurd (let none : ⊥ = cc in none)
