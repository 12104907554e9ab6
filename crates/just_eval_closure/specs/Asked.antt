-- What an environment says of the variable that a value names.
use Rattle.std.specs.Prelude.{ℕ, ◌≡◌, List, Option, Some, None, Result, Ok, Err}
use Rattle.just_eval_closure.specs.Values.{Valued}
use Rattle.just_eval_closure.specs.declared.expression.Asked.{Asked}
use Rattle.just_eval_closure.specs.declared.expression.Asked.TheVariants.{Found, Absent, Refused}

-- the value names a variable that has that text, or that isn't there; or it is refused itself
abbrev pub AsksFor : (List ℕ → Option (List ℕ)) → Valued → Asked → Type 0
AsksFor env key (Found text) = (name : List ℕ) × (key ≡ Ok name) × (env name ≡ Some text)
AsksFor env key (Absent name) = (key ≡ Ok name) × (env name ≡ None)
AsksFor env key (Refused name) = key ≡ Err name
