-- Answers to those of some questions that pass a test, one after the other.
use Rattle.std.proofs.Common.{◌≡◌, ℕ, suc, ◌+◌, ◌<◌, ◌≤◌, Bool, true, false, cond, List, [], ◌∷◌, ◌++◌, map, length, get_or, drop, drop-cons, append-nil, append_assoc, Ok, Err, refl, sym, ap, ◌∙◌, arith}
use Rattle.std.specs.List.{filter}
use Rattle.std.proofs.lemmas.List.{drop_all}
use Rattle.just_lang_types.specs.declared.project.LangError.{LangError}
use Rattle.just_eval_closure.specs.Answers.{Answer, and_then, each}
use Rattle.just_eval_closure.proofs.Each.{behind}

moved : {C : Type 0} (done : List C) (y : C) (rest : Answer (List C)) → behind (done ++ y ∷ []) rest ≡ behind done (and_then rest (λ ys. Ok (y ∷ ys)))
moved done y (Ok ys) = ap (λ zs. Ok zs) (append_assoc done (y ∷ []) ys)
moved done y (Err e) = refl

module _ {A B C : Type 0} (f : B → Answer C) (p : B → Bool) (g : A → B) where
  abbrev pub kept : List A → List B
  kept xs = filter p (map g xs)

  module _ (xs : List A) (n : ℕ) (x : A) (done : List C) (lt : n < length xs) (is : x ≡ get_or xs n x) where
    here : (b : Bool) → p (g x) ≡ b → kept (drop n xs) ≡ cond b (g x ∷ kept (drop (suc n) xs)) (kept (drop (suc n) xs))
    here b h = ap kept (drop-cons xs n x lt ∙ ap (λ z. z ∷ drop (suc n) xs) (sym is)) ∙ ap (λ c. cond c (g x ∷ kept (drop (suc n) xs)) (kept (drop (suc n) xs))) h

    one : n + 1 ≡ suc n
    one = omega arith

    -- an answer more
    pub kept_more : (y : C) → p (g x) ≡ true → f (g x) ≡ Ok y → behind (done ++ y ∷ []) (each f (filter p (map g (drop (n + 1) xs)))) ≡ behind done (each f (filter p (map g (drop n xs))))
    kept_more y h answer =
        ap (λ m. behind (done ++ y ∷ []) (each f (kept (drop m xs)))) one ∙ moved done y (each f (kept (drop (suc n) xs))) ∙ sym (ap (λ zs. behind done (each f zs)) (here true h) ∙ ap (λ a. behind done (and_then a (λ z. and_then (each f (kept (drop (suc n) xs))) (λ zs. Ok (z ∷ zs))))) answer)

    -- a refusal
    pub kept_refused : (e : LangError) → p (g x) ≡ true → f (g x) ≡ Err e → behind done (each f (filter p (map g (drop n xs)))) ≡ Err e
    kept_refused e h refusal =
        ap (λ zs. behind done (each f zs)) (here true h) ∙ ap (λ a. behind done (and_then a (λ z. and_then (each f (kept (drop (suc n) xs))) (λ zs. Ok (z ∷ zs))))) refusal

    -- a question that isn't asked
    pub passed_over : p (g x) ≡ false → behind done (each f (filter p (map g (drop (n + 1) xs)))) ≡ behind done (each f (filter p (map g (drop n xs))))
    passed_over h = ap (λ m. behind done (each f (kept (drop m xs)))) one ∙ sym (ap (λ zs. behind done (each f zs)) (here false h))

  -- no question is left
  pub kept_end : (xs : List A) (n : ℕ) (done : List C) → length xs ≤ n → behind done (each f (filter p (map g (drop n xs)))) ≡ Ok done
  kept_end xs n done le = ap (λ zs. behind done (each f (kept zs))) (drop_all n xs le) ∙ ap (λ zs. Ok zs) (append-nil done)
