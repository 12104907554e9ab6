-- What a recipe takes of words, word by word.
use Rattle.std.proofs.Common.{◌≡◌, ℕ, suc, ◌+◌, ◌<◌, ◌≤◌, Bool, List, [], ◌∷◌, length, get_or, drop, drop-cons, Option, Some, None, Ok, Err, refl, sym, ap, ◌∙◌, arith}
use Rattle.std.proofs.lemmas.List.{drop_all}
use Rattle.just_lang_types.specs.declared.recipe.Parameter.{Parameter}
use Rattle.just_lang_types.specs.declared.recipe.Recipe.{Recipe}
use Rattle.just_lang_types.specs.declared.switch.Switch.{Switch}
use Rattle.just_lang_types.specs.declared.project.LangError.{LangError}
use Rattle.just_lang_types.specs.declared.project.LangError.TheVariants as error
use Rattle.just_eval_closure.specs.Answers.{Answer, and_then}
use Rattle.just_eval_words.specs.Sorts.{Word}
use Rattle.just_eval_words.specs.Switches.{Words, Awaited, Step, or_left, word_taken, takes, all_taken}
use Rattle.just_eval_words.specs.Tests.{given_words, refusal}
use Rattle.just_eval_words.specs.Given.{unless, words_given, tested}

module _ (r : Recipe) (ws : List Word) (n : ℕ) (a : Awaited) (t : Words) where
  here : (w : Word) → n < length ws → w ≡ get_or ws n w → takes r a t (drop n ws) ≡ and_then (word_taken r a t w) (λ o. or_left r o (λ s. takes r s.1 s.0 (drop (suc n) ws)) (Ok (t, w ∷ drop (suc n) ws)))
  here w lt is = ap (λ vs. takes r a t vs) (drop-cons ws n w lt ∙ ap (λ z. z ∷ drop (suc n) ws) (sym is))

  abbrev by : (w : Word) → Answer (Option Step) → Answer (Words × List Word)
  by w x = and_then x (λ o. or_left r o (λ s. takes r s.1 s.0 (drop (suc n) ws)) (Ok (t, w ∷ drop (suc n) ws)))

  -- a word more
  pub word_more : (w : Word) (u : Words) (b : Awaited) → n < length ws → w ≡ get_or ws n w → word_taken r a t w ≡ Ok (Some (u, b)) → takes r b u (drop (n + 1) ws) ≡ takes r a t (drop n ws)
  word_more w u b lt is step =
      let one : n + 1 ≡ suc n = omega arith in
      ap (λ m. takes r b u (drop m ws)) one ∙ sym (here w lt is ∙ ap (by w) step)

  -- a word is left
  pub word_left : (w : Word) → n < length ws → w ≡ get_or ws n w → word_taken r a t w ≡ Ok None → takes r a t (drop n ws) ≡ Ok (t, drop n ws)
  word_left w lt is step =
      here w lt is ∙ ap (by w) step ∙ ap (λ vs. Ok (t, vs)) (sym (drop-cons ws n w lt ∙ ap (λ z. z ∷ drop (suc n) ws) (sym is)))

  -- a refusal
  pub word_refused : (w : Word) (e : LangError) → n < length ws → w ≡ get_or ws n w → word_taken r a t w ≡ Err e → takes r a t (drop n ws) ≡ Err e
  word_refused w e lt is step = here w lt is ∙ ap (by w) step

-- no word is left
pub words_end : (r : Recipe) (ws : List Word) (n : ℕ) (b : Bool) (t : Words) → length ws ≤ n → takes r (Awaited.a_word b) t (drop n ws) ≡ Ok (t, drop n ws)
words_end r ws n b t le = let none : drop n ws ≡ [] = drop_all n ws le in ap (λ vs. takes r (Awaited.a_word b) t vs) none ∙ ap (λ vs. Ok (t, vs)) (sym none)

-- an option waits for its value
pub value_missing : (r : Recipe) (ws : List Word) (n : ℕ) (switch : Switch) (m : ℕ) (p : Parameter) (t : Words) → length ws ≤ n → takes r (Awaited.a_value switch m p) t (drop n ws) ≡ Err (error.OptionMissingValue r.name switch)
value_missing r ws n switch m p t le = ap (λ vs. takes r (Awaited.a_value switch m p) t vs) (drop_all n ws le)

-- ---- with the tests

module _ (r : Recipe) (ws : List Word) where
  pub given_refused : (e : LangError) → all_taken r ws ≡ Err e → words_given r ws ≡ Err e
  given_refused e is = ap (λ x. and_then x (λ s. tested r s.0 s.1)) is

  module _ (t : Words) (left : List Word) (is : all_taken r ws ≡ Ok (t, left)) where
    given_here : words_given r ws ≡ tested r t left
    given_here = ap (λ x. and_then x (λ s. tested r s.0 s.1)) is

    pub given_tested : (e : LangError) → refusal r (length t.positional) (given_words r.parameters t) ≡ Some e → words_given r ws ≡ Err e
    given_tested e h = given_here ∙ ap (λ x. unless x (given_words r.parameters t, left)) h

    pub given_taken : refusal r (length t.positional) (given_words r.parameters t) ≡ None → words_given r ws ≡ Ok (given_words r.parameters t, left)
    given_taken h = given_here ∙ ap (λ x. unless x (given_words r.parameters t, left)) h
