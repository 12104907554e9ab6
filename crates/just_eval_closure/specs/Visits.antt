-- The visits of the keys that a request needs, in the order of one thread. A visit goes to the priors of a key first, in the
-- same round, then the key gets the next place, then come its subsequents, in the round that its place names.
use Rattle.std.specs.Prelude.{ℕ, ◌≡◌, ◌<◌, nat_lt, true, false, if◌then◌else◌, List, [], ◌∷◌, ◌++◌, length, Contains, Option, Some, Result, Ok, Err}
use Rattle.just_eval_closure.specs.declared.TheConstants.{CLOSURE_LIMIT}
use Rattle.just_lang_types.specs.declared.key.Key.{Key}
use Rattle.just_lang_types.specs.declared.place.Place.{Place}
use Rattle.just_lang_types.specs.declared.project.LangError.{LangError}
use Rattle.just_lang_types.specs.declared.project.LangError.TheVariants.{ClosureLimit}
use Rattle.just_eval_closure.specs.Places.{place, is_listed}

-- the places that were visited, or why the visits were refused
abbrev pub Visited : Type 0
Visited = Result (List Place) LangError

-- the keys around a key, or why they are refused
abbrev pub Around : Type 0
Around = Result (List Key × List Key) LangError

abbrev pub priors_in : Around → List Key
priors_in (Ok keys) = keys.0
priors_in (Err e) = []

abbrev pub subsequents_in : Around → List Key
subsequents_in (Ok keys) = keys.1
subsequents_in (Err e) = []

-- the keys before and behind each key
abbrev pub priors_by : (Key → Around) → Key → List Key
priors_by around k = priors_in (around k)

abbrev pub subsequents_by : (Key → Around) → Key → List Key
subsequents_by around k = subsequents_in (around k)

-- no key leads to itself: the keys around a key have lower ranks
pub record IsRanked (around : Key → Around) (rank : Key → ℕ) : Type 0 where
  pub priors : (k q : Key) → Contains (priors_by around k) q → rank q < rank k
  pub subsequents : (k q : Key) → Contains (subsequents_by around k) q → rank q < rank k

-- a visit begins where the keys around its key aren't refused
abbrev pub begun : List Place → Around → Visited
begun list (Ok keys) = Ok list
begun list (Err e) = Err e

-- the key gets the next place, where there are fewer than a million
abbrev pub placed : Visited → Option ℕ → Key → Visited
placed (Ok list) round key = if nat_lt (length list) CLOSURE_LIMIT then Ok (list ++ place round key ∷ []) else Err ClosureLimit
placed (Err e) round key = Err e

-- the number of the next place
abbrev pub next_place : Visited → ℕ
next_place (Ok list) = length list
next_place (Err e) = 0

-- the key isn't among what was visited, where that isn't refused
abbrev pub IsNew : Visited → Option ℕ → Key → Type 0
IsNew (Ok list) round key = is_listed list round key ≡ false
IsNew (Err e) round key = Unit {0}

-- The visits of some keys in a round, one behind the other, lead from the one to the other. Where a key leads to itself by its
-- priors, it has no visit.
pub data Visits (around : Key → Around) : Visited → Option ℕ → List Key → Visited → Type 0 where
  -- behind a refusal nothing is visited
  stopped : (e : LangError) (round : Option ℕ) (keys : List Key) → Visits around (Err e) round keys (Err e)
  none : (list : List Place) (round : Option ℕ) → Visits around (Ok list) round [] (Ok list)
  -- a key that was visited in the round isn't visited again
  again : (list : List Place) (round : Option ℕ) (key : Key) (keys : List Key) (end : Visited) → is_listed list round key ≡ true → Visits around (Ok list) round keys end
      → Visits around (Ok list) round (key ∷ keys) end
  -- any other is
  visited : (list : List Place) (round : Option ℕ) (key : Key) (keys : List Key) (before behind end : Visited) → is_listed list round key ≡ false
      → Visits around (begun list (around key)) round (priors_in (around key)) before → IsNew before round key
      → Visits around (placed before round key) (Some (next_place before)) (subsequents_in (around key)) behind → Visits around behind round keys end
      → Visits around (Ok list) round (key ∷ keys) end
