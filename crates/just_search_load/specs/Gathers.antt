-- What some things give, one behind the other.
use Rattle.std.specs.Prelude.{◌≡◌, ◌⊎◌, List, [], ◌∷◌, ◌++◌, Result, Ok, Err}
use Rattle.just_env.specs.declared.search_error.SearchError.{SearchError}
use Rattle.just_env.specs.declared.search_error.SearchError.TheVariants as error

-- what each of some things gives, one behind the other, or the first refusal
pub data Gathers {A B : Type 0} (gives : A → Result (List B) SearchError → Type 0) : List A → Result (List B) SearchError → Type 0 where
  nothing : Gathers gives [] (Ok [])
  more : (x : A) (xs : List A) (ys zs : List B) → gives x (Ok ys) → Gathers gives xs (Ok zs) → Gathers gives (x ∷ xs) (Ok (ys ++ zs))
  refused_first : (x : A) (xs : List A) (e : SearchError) → gives x (Err e) → Gathers gives (x ∷ xs) (Err e)
  refused_later : (x : A) (xs : List A) (ys : List B) (e : SearchError) → gives x (Ok ys) → Gathers gives xs (Err e) → Gathers gives (x ∷ xs) (Err e)

-- an answer is added to what was there; want of memory may come in its place
abbrev pub Adds : {A : Type 0} → (Result (List A) SearchError → Type 0) → List A → List A → Result (Unit {0}) SearchError → Type 0
Adds {A} P old new (Ok x) = (more : List A) × P (Ok more) × (new ≡ old ++ more)
Adds P old new (Err e) = (e ≡ error.NoMemory) ⊎ P (Err e)
