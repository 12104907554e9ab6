-- What a function that reads a piece of a string ensures: the character that it gives, if it gives one.
use Rattle.std.specs.Prelude.{◌≡◌, ◌≢◌, ℕ, List, [], ◌∷◌, Option, Some, None, Result, Ok, Err}
use Rattle.just_lang_read.specs.Place.{Place}
use Rattle.just_lang_read.specs.Reader.{Outcome}
use Rattle.just_lang_read.specs.declared.error.ReadError.{ReadError}
use Rattle.just_lang_read.specs.declared.error.ReadError.TheVariants.{NoMemory}

abbrev pub given_by : Option ℕ → List ℕ
given_by None = []
given_by (Some c) = c ∷ []

abbrev pub ReadsSome : Outcome (List ℕ) → Result (Option ℕ) ReadError → Place → Type 0
ReadsSome outcome (Ok given) new = outcome ≡ Ok (given_by given, new)
ReadsSome outcome (Err e) new = e ≢ NoMemory → outcome ≡ Err e
