-- The letters of a group, letter by letter.
use Rattle.std.proofs.Common.{◌≡◌, ℕ, zero, suc, ◌+◌, ◌<◌, ◌≤◌, ◌==◌, Bool, true, false, List, [], ◌∷◌, length, get_or, drop, drop-cons, length-drop, Ok, Err, inl, inr, eqb-true, refl, sym, ap, ◌∙◌, arith}
use Rattle.std.specs.Prelude.{◌⊎◌}
use Rattle.std.proofs.lemmas.Bool.{cases_lt, eqb-false}
use Rattle.std.proofs.lemmas.List.{drop_all}
use Rattle.just_lang_types.specs.declared.recipe.Recipe.{Recipe}
use Rattle.just_lang_types.specs.declared.project.LangError.{LangError}
use Rattle.just_eval_closure.specs.Answers.{Answer, and_then}
use Rattle.just_eval_words.specs.Switches.{Words, Awaited, Step, is_last, letter_taken, letters_taken}

no_letter : (ds : List ℕ) → length ds ≡ 0 → is_last ds ≡ true
no_letter [] h = refl
no_letter (d ∷ ds) h = absurd (omega (arith, h))

some_letter : (ds : List ℕ) → 0 < length ds → is_last ds ≡ false
some_letter [] h = absurd (omega (arith, h))
some_letter (d ∷ ds) h = refl

-- a letter is the last one where the number of letters is reached
last_at : (cs : List ℕ) (n : ℕ) → n < length cs → is_last (drop (suc n) cs) ≡ (n + 1 == length cs)
last_at cs n lt = pick (n + 1 == length cs) refl
  where
    pick : (b : Bool) → (n + 1 == length cs) ≡ b → is_last (drop (suc n) cs) ≡ b
    pick true h =
        let is : n + 1 ≡ length cs = eqb-true (n + 1) (length cs) h in
        no_letter (drop (suc n) cs) (omega (arith, is, length-drop (suc n) cs))
    pick false h = some_letter (drop (suc n) cs) (more (decide (suc n) (length cs)))
      where
        decide : (a b : ℕ) → (a < b) ⊎ (b ≤ a)
        decide a b = cases_lt a b

        more : (suc n < length cs) ⊎ (length cs ≤ suc n) → 0 < length (drop (suc n) cs)
        more (inl l) = omega (arith, l, length-drop (suc n) cs)
        more (inr l) = let is : n + 1 ≡ length cs = omega (arith, l, lt) in absurd (eqb-false (n + 1) (length cs) h is)

refusal_stays : (r : Recipe) (cs : List ℕ) (e : LangError) → letters_taken r cs (Err e) ≡ Err e
refusal_stays r [] e = refl
refusal_stays r (c ∷ cs) e = refusal_stays r cs e

module _ (r : Recipe) (cs : List ℕ) (n : ℕ) (lt : n < length cs) (t : Words) (a : Awaited) where
  here : letters_taken r (drop n cs) (Ok (t, a)) ≡ letters_taken r (drop (suc n) cs) (letter_taken r (get_or cs n 0) (n + 1 == length cs) t)
  here =
      ap (λ ds. letters_taken r ds (Ok (t, a))) (drop-cons cs n 0 lt) ∙ ap (λ b. letters_taken r (drop (suc n) cs) (letter_taken r (get_or cs n 0) b t)) (last_at cs n lt)

  -- a letter more
  pub letter_more : (s : Step) → letter_taken r (get_or cs n 0) (n + 1 == length cs) t ≡ Ok s → letters_taken r (drop (n + 1) cs) (Ok s) ≡ letters_taken r (drop n cs) (Ok (t, a))
  letter_more s is =
      let one : n + 1 ≡ suc n = omega arith in
      ap (λ m. letters_taken r (drop m cs) (Ok s)) one ∙ sym (here ∙ ap (λ x. letters_taken r (drop (suc n) cs) x) is)

  -- a refusal
  pub letter_refused : (e : LangError) → letter_taken r (get_or cs n 0) (n + 1 == length cs) t ≡ Err e → letters_taken r (drop n cs) (Ok (t, a)) ≡ Err e
  letter_refused e is = here ∙ ap (λ x. letters_taken r (drop (suc n) cs) x) is ∙ refusal_stays r (drop (suc n) cs) e

-- a refusal of the letter x, which stands there
pub letter_refused_at : (r : Recipe) (cs : List ℕ) (n : ℕ) (t : Words) (a : Awaited) (x : ℕ) (e : LangError) → n < length cs → x ≡ get_or cs n x → letter_taken r x (n + 1 == length cs) t ≡ Err e → letters_taken r (drop n cs) (Ok (t, a)) ≡ Err e
letter_refused_at r cs n t a x e lt is refusal =
    ap (λ ds. letters_taken r ds (Ok (t, a))) (drop-cons cs n x lt ∙ ap (λ z. z ∷ drop (suc n) cs) (sym is)) ∙ ap (λ b. letters_taken r (drop (suc n) cs) (letter_taken r x b t)) (last_at cs n lt) ∙ ap (λ y. letters_taken r (drop (suc n) cs) y) refusal ∙ refusal_stays r (drop (suc n) cs) e

-- no letter is left
pub letters_end : (r : Recipe) (cs : List ℕ) (n : ℕ) (s : Answer Step) → length cs ≤ n → letters_taken r (drop n cs) s ≡ s
letters_end r cs n s le = ap (λ ds. letters_taken r ds s) (drop_all n cs le)
