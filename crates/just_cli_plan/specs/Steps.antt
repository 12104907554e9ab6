-- Steps of a request, one behind another.
use Rattle.std.specs.Prelude.{◌≡◌, Result, Ok, Err}
use Rattle.just_exec.specs.declared.error.Error.{Error}

-- A step goes from what is known to what it finds, or to a refusal. Of two steps the second goes on from what the first
-- finds; a refusal of the first is the refusal of both.
pub data Then {A B C : Type 0} (one : A → Result B Error → Type 0) (two : B → Result C Error → Type 0) (known : A) (answer : Result C Error) : Type 0 where
  stops : (e : Error) → one known (Err e) → answer ≡ Err e → Then one two known answer
  goes_on : (found : B) → one known (Ok found) → two found answer → Then one two known answer
