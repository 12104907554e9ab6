-- The first refusal of a test, parameter by parameter, and that of all tests.
use Rattle.std.proofs.Common.{◌≡◌, ℕ, suc, ◌+◌, ◌<◌, ◌≤◌, Bool, true, false, cond, List, [], ◌∷◌, length, get_or, drop, drop-cons, Option, Some, None, refl, sym, ap, ◌∙◌, arith}
use Rattle.std.proofs.lemmas.List.{drop_all}
use Rattle.std.specs.Prelude.{find, not}
use Rattle.std.specs.List.{list_any}
use Rattle.std.specs.Option.{option_map}
use Rattle.just_path_text.specs.Environ.{or_else}
use Rattle.just_lang_types.specs.declared.recipe.Pattern.{Pattern}
use Rattle.just_lang_types.specs.declared.project.LangError.TheVariants as error
use Rattle.just_eval_words.specs.Patterns.{matches}
use Rattle.just_lang_types.specs.declared.recipe.Parameter.{Parameter}
use Rattle.just_lang_types.specs.declared.recipe.Recipe.{Recipe}
use Rattle.just_lang_types.specs.declared.project.LangError.{LangError}
use Rattle.just_eval_words.specs.Sorts.{Word}
use Rattle.just_eval_words.specs.Tests.{mismatch_by, first_over, count_refusal, lack, miscount, mismatch, refusal}

module _ (test : Parameter → List Word → Option LangError) (ps : List Parameter) (gs : List (List Word)) (n : ℕ) where
  here : (p : Parameter) (g : List Word) → n < length ps → n < length gs → p ≡ get_or ps n p → g ≡ get_or gs n g → first_over test (drop n ps) (drop n gs) ≡ or_else (test p g) (first_over test (drop (suc n) ps) (drop (suc n) gs))
  here p g lt lt' is is' =
      ap (λ qs. first_over test qs (drop n gs)) (drop-cons ps n p lt ∙ ap (λ z. z ∷ drop (suc n) ps) (sym is)) ∙ ap (λ hs. first_over test (p ∷ drop (suc n) ps) hs) (drop-cons gs n g lt' ∙ ap (λ z. z ∷ drop (suc n) gs) (sym is'))

  -- it says nothing
  pub passed : (p : Parameter) (g : List Word) → n < length ps → n < length gs → p ≡ get_or ps n p → g ≡ get_or gs n g → test p g ≡ None → first_over test (drop (n + 1) ps) (drop (n + 1) gs) ≡ first_over test (drop n ps) (drop n gs)
  passed p g lt lt' is is' h =
      let one : n + 1 ≡ suc n = omega arith in
      ap (λ m. first_over test (drop m ps) (drop m gs)) one ∙ sym (here p g lt lt' is is' ∙ ap (λ o. or_else o (first_over test (drop (suc n) ps) (drop (suc n) gs))) h)

  -- it refuses
  pub refused : (p : Parameter) (g : List Word) (e : LangError) → n < length ps → n < length gs → p ≡ get_or ps n p → g ≡ get_or gs n g → test p g ≡ Some e → first_over test (drop n ps) (drop n gs) ≡ Some e
  refused p g e lt lt' is is' h = here p g lt lt' is is' ∙ ap (λ o. or_else o (first_over test (drop (suc n) ps) (drop (suc n) gs))) h

  -- no parameter is left
  pub no_parameter : length ps ≤ n → first_over test (drop n ps) (drop n gs) ≡ None
  no_parameter le = ap (λ qs. first_over test qs (drop n gs)) (drop_all n ps le)

  -- nothing more was given
  pub nothing_given : length gs ≤ n → first_over test (drop n ps) (drop n gs) ≡ None
  nothing_given le = ap (λ hs. first_over test (drop n ps) hs) (drop_all n gs le) ∙ over (drop n ps)
    where
      over : (qs : List Parameter) → first_over test qs [] ≡ None
      over [] = refl
      over (q ∷ qs) = refl

-- ---- patterns

module _ (r : Recipe) (p : Parameter) (values : List Word) (pattern : Pattern) (h : p.pattern ≡ Some pattern) where
  pub mismatch_told : (v n m : List ℕ) (ts : List (List ℕ)) → find (λ x. not (list_any (λ q. matches q x) pattern.texts)) values ≡ Some v → n ≡ r.name → m ≡ p.name → ts ≡ pattern.texts → mismatch r p values ≡ Some (error.ArgumentPatternMismatch v n m ts)
  mismatch_told v n m ts k named called are =
      ap (λ o. mismatch_by r p o values) h ∙ ap (option_map (λ x. error.ArgumentPatternMismatch x r.name p.name pattern.texts)) k ∙ ap (λ x. Some (error.ArgumentPatternMismatch v x p.name pattern.texts)) (sym named) ∙ ap (λ x. Some (error.ArgumentPatternMismatch v n x pattern.texts)) (sym called) ∙ ap (λ x. Some (error.ArgumentPatternMismatch v n m x)) (sym are)

  pub all_match : find (λ x. not (list_any (λ q. matches q x) pattern.texts)) values ≡ None → mismatch r p values ≡ None
  all_match k = ap (λ o. mismatch_by r p o values) h ∙ ap (option_map (λ x. error.ArgumentPatternMismatch x r.name p.name pattern.texts)) k

-- the first value that passes a test, value by value
module _ (test : Word → Bool) (vs : List Word) (n : ℕ) (v : Word) (lt : n < length vs) (is : v ≡ get_or vs n v) where
  value_here : find test (drop n vs) ≡ cond (test v) (Some v) (find test (drop (suc n) vs))
  value_here = ap (λ us. find test us) (drop-cons vs n v lt ∙ ap (λ z. z ∷ drop (suc n) vs) (sym is))

  pub value_found : test v ≡ true → find test (drop n vs) ≡ Some v
  value_found h = value_here ∙ ap (λ b. cond b (Some v) (find test (drop (suc n) vs))) h

  pub value_passed : test v ≡ false → find test (drop (n + 1) vs) ≡ find test (drop n vs)
  value_passed h =
      let one : n + 1 ≡ suc n = omega arith in
      ap (λ m. find test (drop m vs)) one ∙ sym (value_here ∙ ap (λ b. cond b (Some v) (find test (drop (suc n) vs))) h)

-- ---- all tests

module _ (r : Recipe) (count : ℕ) (gs : List (List Word)) where
  pub first_is : (e : LangError) → count_refusal r count ≡ Some e → refusal r count gs ≡ Some e
  first_is e h = ap (λ o. or_else o (or_else (first_over (lack r) r.parameters gs) (or_else (first_over (miscount r) r.parameters gs) (first_over (mismatch r) r.parameters gs)))) h

  behind_first : count_refusal r count ≡ None → refusal r count gs ≡ or_else (first_over (lack r) r.parameters gs) (or_else (first_over (miscount r) r.parameters gs) (first_over (mismatch r) r.parameters gs))
  behind_first h = ap (λ o. or_else o (or_else (first_over (lack r) r.parameters gs) (or_else (first_over (miscount r) r.parameters gs) (first_over (mismatch r) r.parameters gs)))) h

  pub second_is : (e : LangError) → count_refusal r count ≡ None → first_over (lack r) r.parameters gs ≡ Some e → refusal r count gs ≡ Some e
  second_is e h k = behind_first h ∙ ap (λ o. or_else o (or_else (first_over (miscount r) r.parameters gs) (first_over (mismatch r) r.parameters gs))) k

  behind_second : count_refusal r count ≡ None → first_over (lack r) r.parameters gs ≡ None → refusal r count gs ≡ or_else (first_over (miscount r) r.parameters gs) (first_over (mismatch r) r.parameters gs)
  behind_second h k = behind_first h ∙ ap (λ o. or_else o (or_else (first_over (miscount r) r.parameters gs) (first_over (mismatch r) r.parameters gs))) k

  pub third_is : (e : LangError) → count_refusal r count ≡ None → first_over (lack r) r.parameters gs ≡ None → first_over (miscount r) r.parameters gs ≡ Some e → refusal r count gs ≡ Some e
  third_is e h k l = behind_second h k ∙ ap (λ o. or_else o (first_over (mismatch r) r.parameters gs)) l

  pub last_is : count_refusal r count ≡ None → first_over (lack r) r.parameters gs ≡ None → first_over (miscount r) r.parameters gs ≡ None → refusal r count gs ≡ first_over (mismatch r) r.parameters gs
  last_is h k l = behind_second h k ∙ ap (λ o. or_else o (first_over (mismatch r) r.parameters gs)) l
