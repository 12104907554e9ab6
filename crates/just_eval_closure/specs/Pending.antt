-- The visits that are pending, what they lead to, and how many tasks are left.
use Rattle.std.specs.Prelude.{ℕ, zero, suc, ◌+◌, ◌<◌, ◌≡◌, false, List, [], ◌∷◌, ◌++◌, Option, Some, Ok}
use Rattle.just_lang_types.specs.declared.key.Key.{Key}
use Rattle.just_lang_types.specs.declared.place.Place.{Place}
use Rattle.just_eval_closure.specs.declared.walk.Beside.{Beside}
use Rattle.just_eval_closure.specs.declared.walk.Pending.{Pending}
use Rattle.just_eval_closure.specs.declared.walk.Pending.TheVariants as task
use Rattle.just_eval_closure.specs.Places.{place, is_listed, numbers_of}
use Rattle.just_eval_closure.specs.Visits.{Visited, Around, priors_by, subsequents_by, placed, next_place, IsNew, Visits}

-- visits of keys in a round, the first of which is done first: the last task is
abbrev pub stacked : List Pending → Option ℕ → List Key → List Pending
stacked tasks round [] = tasks
stacked tasks round (k ∷ ks) = stacked tasks round ks ++ task.Visit (place round k) ∷ []

-- the sum of a number of each key
abbrev pub total : (Key → ℕ) → List Key → ℕ
total f [] = 0
total f (k ∷ ks) = f k + total f ks

-- the key of a task
abbrev pub key_of : Pending → Key
key_of (task.Visit x) = x.key
key_of (task.Settle x priors subsequents) = x.key

module _ (around : Key → Around) where
  -- what a task leads to: the visit of a key, or that a key whose priors were visited gets its place and its subsequents are visited
  abbrev pub Step : Pending → Visited → Visited → Type 0
  Step (task.Visit x) start end = Visits around start x.round (x.key ∷ []) end
  Step (task.Settle x priors subsequents) start end = IsNew start x.round x.key × Visits around (placed start x.round x.key) (Some (next_place start)) subsequents end

  -- what tasks lead to, the last of them first
  abbrev pub Finishes : List Pending → Visited → Visited → Type 0
  Finishes [] start end = start ≡ end
  Finishes (t ∷ ts) start end = (mid : Visited) × Finishes ts start mid × Step t mid end

  -- whatever the one state of the work leads to, the other leads to
  abbrev pub Leads : List Pending → List Place → List Pending → List Place → Type 0
  Leads ts list us new = (end : Visited) → Finishes us (Ok new) end → Finishes ts (Ok list) end

  -- what stands beside a place behind some others: the numbers of its priors among these, and its subsequents
  abbrev pub beside_behind : List Place → Place → Beside
  beside_behind done x = record { priors = numbers_of done x.round (priors_by around x.key); subsequents = subsequents_by around x.key }

  -- beside each place, where some stand before them all
  abbrev pub besides_behind : List Place → List Place → List Beside
  besides_behind done [] = []
  besides_behind done (x ∷ xs) = beside_behind done x ∷ besides_behind (done ++ x ∷ []) xs

  -- that stands beside the places
  abbrev pub AreBeside : List Place → List Beside → Type 0
  AreBeside list beside = beside ≡ besides_behind [] list

  -- How many tasks the visit of a key comes to, where no chain of keys around keys is longer than that: two of its own, and those
  -- of the keys around it.
  abbrev pub tasks_within : ℕ → Key → ℕ
  tasks_within zero k = 0
  tasks_within (suc n) k = suc (suc (total (λ q. tasks_within n q) (priors_by around k) + total (λ q. tasks_within n q) (subsequents_by around k)))

module _ (around : Key → Around) (rank : Key → ℕ) where
  -- ---- ranks of keys

  -- the key's rank is below that of a key that is to get its place
  abbrev pub IsBelow : Key → Pending → Type 0
  IsBelow k (task.Visit x) = Unit {0}
  IsBelow k (task.Settle x priors subsequents) = rank k < rank x.key

  abbrev pub IsBelowAll : Key → List Pending → Type 0
  IsBelowAll k [] = Unit {0}
  IsBelowAll k (t ∷ ts) = IsBelow k t × IsBelowAll k ts

  abbrev pub AreBelow : List Pending → Pending → Type 0
  AreBelow [] t = Unit {0}
  AreBelow (u ∷ us) t = IsBelow (key_of u) t × AreBelow us t

  -- a key that is to get its place has none, and has the keys around it with it
  abbrev pub IsRight : List Place → Pending → Type 0
  IsRight list (task.Visit x) = Unit {0}
  IsRight list (task.Settle x priors subsequents) = (around x.key ≡ Ok (priors, subsequents)) × (is_listed list x.round x.key ≡ false)

  -- what is done before a key gets its place is about keys of lower ranks
  abbrev pub AreRight : List Place → List Pending → Type 0
  AreRight list [] = Unit {0}
  AreRight list (t ∷ ts) = IsRight list t × AreBelow ts t × AreRight list ts

  -- ---- how many tasks are left

  abbrev pub tasks_of : Key → ℕ
  tasks_of k = tasks_within around (suc (rank k)) k

  abbrev pub tasks_from : Pending → ℕ
  tasks_from (task.Visit x) = tasks_of x.key
  tasks_from (task.Settle x priors subsequents) = suc (total tasks_of subsequents)

  abbrev pub tasks_left : List Pending → ℕ
  tasks_left [] = 0
  tasks_left (t ∷ ts) = tasks_from t + tasks_left ts

  -- the one state of the work leads to what the other leads to, which is right and has fewer tasks left
  pub record Proceeds (ts : List Pending) (list : List Place) (us : List Pending) (new : List Place) : Type 0 where
    pub leads : Leads around ts list us new
    pub right : AreRight new us
    pub fewer : tasks_left us < tasks_left ts
