-- Answers that may be refusals.
use Rattle.std.specs.Prelude.{◌≡◌, ◌≢◌, ℕ, List, [], ◌∷◌, Result, Ok, Err}
use Rattle.just_lang_types.specs.declared.project.LangError.{LangError}
use Rattle.just_lang_types.specs.declared.project.LangError.TheVariants as error
use Rattle.just_eval_closure.specs.Values.{Valued}

-- a value of that sort, or why there is none
abbrev pub Answer : Type 0 → Type 0
Answer A = Result A LangError

abbrev pub and_then : {A B : Type 0} → Answer A → (A → Answer B) → Answer B
and_then (Ok a) next = next a
and_then (Err e) next = Err e

-- the answers to each of some questions, in their order, up to the first refusal
abbrev pub each : {A B : Type 0} → (A → Answer B) → List A → Answer (List B)
each ask [] = Ok []
each ask (x ∷ xs) = and_then (ask x) (λ y. and_then (each ask xs) (λ ys. Ok (y ∷ ys)))

-- a variable of the environment that isn't there refuses
abbrev pub told : Valued → Answer (List ℕ)
told (Ok text) = Ok text
told (Err name) = Err (error.FunctionCall name)

-- a call gives that answer, or memory is wanting
abbrev pub Gives : {A : Type 0} → Answer A → Answer A → Type 0
Gives answer (Ok a) = answer ≡ Ok a
Gives answer (Err e) = e ≢ error.NoMemory → answer ≡ Err e
