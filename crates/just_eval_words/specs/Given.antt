-- What words give to the parameters of a recipe.
use Rattle.std.specs.Prelude.{List, length, Option, Some, None, Ok, Err}
use Rattle.just_lang_types.specs.declared.recipe.Recipe.{Recipe}
use Rattle.just_lang_types.specs.declared.project.LangError.{LangError}
use Rattle.just_eval_closure.specs.Answers.{Answer, and_then}
use Rattle.just_eval_words.specs.Sorts.{Word}
use Rattle.just_eval_words.specs.Switches.{Words, all_taken}
use Rattle.just_eval_words.specs.Tests.{given_words, refusal}

abbrev pub unless : {A : Type 0} → Option LangError → A → Answer A
unless None a = Ok a
unless (Some e) a = Err e

abbrev pub tested : Recipe → Words → List Word → Answer (List (List Word) × List Word)
tested r t left = unless (refusal r (length t.positional) (given_words r.parameters t)) (given_words r.parameters t, left)

-- what each parameter of a recipe is given of words, and the words that are left; or the first refusal
abbrev pub words_given : Recipe → List Word → Answer (List (List Word) × List Word)
words_given r ws = and_then (all_taken r ws) (λ s. tested r s.0 s.1)
