-- Readers: what is read from a place on, and the place behind it.
use Rattle.std.specs.Prelude.{◌≡◌, ◌≢◌, ℕ, zero, suc, Bool, if◌then◌else◌, List, [], ◌∷◌, length, Result, Ok, Err}
use Rattle.just_lang_read.specs.Place.{Place, next, sees}
use Rattle.just_lang_read.specs.declared.error.ReadError.{ReadError}
use Rattle.just_lang_read.specs.declared.error.ReadError.TheVariants.{Syntax, NoMemory}

-- what a reader answers: a value and the place behind it, or why nothing was read
abbrev pub Outcome : Type 0 → Type 0
Outcome A = Result (A × Place) ReadError

-- a reader of values, from a place on
abbrev pub Reader : Type 0 → Type 0
Reader A = Place → Outcome A

-- an outcome, and what is read from behind it; an error stays
abbrev pub and_then : {A B : Type 0} → Outcome A → (A → Reader B) → Outcome B
and_then (Ok s) f = f s.0 s.1
and_then (Err e) f = Err e

-- one reader, and then the reader that its value gives
infixl 10 ◌>>=◌
abbrev pub ◌>>=◌ : {A B : Type 0} → Reader A → (A → Reader B) → Reader B
r >>= f = λ p. and_then (r p) f

-- one reader, and then another
infixl 10 ◌>>◌
abbrev pub ◌>>◌ : {A B : Type 0} → Reader A → Reader B → Reader B
r >> s = r >>= (λ _. s)

-- takes nothing and gives that value
abbrev pub pure : {A : Type 0} → A → Reader A
pure a = λ p. Ok (a, p)

-- reads nothing
abbrev pub refuse : {A : Type 0} → Reader A
refuse = λ p. Err Syntax

-- reads that character
unfoldable pub expect : ℕ → Reader (Unit {0})
expect c = λ p. if sees c p then Ok (tt, next p) else Err Syntax

-- a list, for as long as the test says that one more begins here; the number bounds the turns
module _ {A : Type 0} (more : Place → Bool) (one : Reader A) where
  -- one turn: one value and the others, where one more begins
  abbrev pub step : Reader (List A) → Reader (List A)
  step others = λ p. if more p then and_then (one p) (λ x. others >>= (λ xs. pure (x ∷ xs))) else Ok ([], p)

  -- that many turns and one more
  abbrev pub many_in : ℕ → Reader (List A)
  many_in zero = step refuse
  many_in (suc n) = step (many_in n)

  -- each turn takes a character, so their count is bound enough
  unfoldable pub many : Reader (List A)
  many p = many_in (length p.rest) p

-- what a function that reads ensures of its result and of the place where it leaves the cursor: the reader's outcome,
-- unless memory is wanting
abbrev pub Reads : {A : Type 0} → Outcome A → Result A ReadError → Place → Type 0
Reads outcome (Ok a) new = outcome ≡ Ok (a, new)
Reads outcome (Err e) new = e ≢ NoMemory → outcome ≡ Err e
