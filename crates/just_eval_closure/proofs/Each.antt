-- Answers one after the other, as a loop collects them.
use Rattle.std.proofs.Common.{◌≡◌, ℕ, suc, ◌+◌, ◌<◌, ◌≤◌, List, [], ◌∷◌, ◌++◌, length, get_or, drop, drop-cons, append-nil, append_assoc, Ok, Err, refl, sym, ap, ◌∙◌, arith}
use Rattle.std.proofs.lemmas.List.{drop_all}
use Rattle.just_lang_types.specs.declared.project.LangError.{LangError}
use Rattle.just_eval_closure.specs.Answers.{Answer, and_then, each}

-- what was found with the answers that are left
abbrev pub behind : {A : Type 0} → List A → Answer (List A) → Answer (List A)
behind done rest = and_then rest (λ ys. Ok (done ++ ys))

moved : {A : Type 0} (done : List A) (y : A) (rest : Answer (List A)) → behind (done ++ y ∷ []) rest ≡ behind done (and_then rest (λ ys. Ok (y ∷ ys)))
moved done y (Ok ys) = ap (λ zs. Ok zs) (append_assoc done (y ∷ []) ys)
moved done y (Err e) = refl

module _ {A B : Type 0} (f : A → Answer B) where
  left_at : (xs : List A) (n : ℕ) (x : A) → n < length xs → x ≡ get_or xs n x → drop n xs ≡ x ∷ drop (suc n) xs
  left_at xs n x lt is = drop-cons xs n x lt ∙ ap (λ z. z ∷ drop (suc n) xs) (sym is)

  -- an answer more
  pub each_more : (xs : List A) (n : ℕ) (x : A) (y : B) (done : List B) → n < length xs → x ≡ get_or xs n x → f x ≡ Ok y → behind (done ++ y ∷ []) (each f (drop (n + 1) xs)) ≡ behind done (each f (drop n xs))
  each_more xs n x y done lt is answer =
      let one : n + 1 ≡ suc n = omega arith in
      ap (λ m. behind (done ++ y ∷ []) (each f (drop m xs))) one ∙ moved done y (each f (drop (suc n) xs)) ∙ sym (ap (λ zs. behind done (each f zs)) (left_at xs n x lt is) ∙ ap (λ a. behind done (and_then a (λ z. and_then (each f (drop (suc n) xs)) (λ zs. Ok (z ∷ zs))))) answer)

  -- a refusal
  pub each_refused : (xs : List A) (n : ℕ) (x : A) (e : LangError) (done : List B) → n < length xs → x ≡ get_or xs n x → f x ≡ Err e → behind done (each f (drop n xs)) ≡ Err e
  each_refused xs n x e done lt is refusal =
      ap (λ zs. behind done (each f zs)) (left_at xs n x lt is) ∙ ap (λ a. behind done (and_then a (λ z. and_then (each f (drop (suc n) xs)) (λ zs. Ok (z ∷ zs))))) refusal

  -- no question is left
  pub each_end : (xs : List A) (n : ℕ) (done : List B) → length xs ≤ n → behind done (each f (drop n xs)) ≡ Ok done
  each_end xs n done le = ap (λ zs. behind done (each f zs)) (drop_all n xs le) ∙ ap (λ zs. Ok zs) (append-nil done)
