-- Keys in rounds, in a list in which a number is a place; the nodes that such a list makes; and the closure of some keys as a
-- least set.
use Rattle.std.specs.Prelude.{ℕ, suc, ◌==◌, ◌≡◌, ◌<◌, ◌&&◌, Bool, true, false, List, [], ◌∷◌, ◌++◌, map, slice_get, Contains, Option, Some, None, if◌then◌else◌}
use Rattle.std.specs.List.{list_any, position_or_len}
use Rattle.just_lang_types.specs.declared.key.Key.{Key}
use Rattle.just_lang_types.specs.declared.node.Closure.{Closure}
use Rattle.just_lang_types.specs.declared.node.Node.{Node}
use Rattle.just_lang_types.specs.declared.place.Place.{Place}
use Rattle.just_lang_types.specs.Keys.{same_key}

-- whether two rounds are one
abbrev pub same_round : Option ℕ → Option ℕ → Bool
same_round None None = true
same_round None (Some m) = false
same_round (Some n) None = false
same_round (Some n) (Some m) = n == m

-- the place of a key in a round
abbrev pub place : Option ℕ → Key → Place
place r k = record { round = r; key = k }

-- whether a place is that of the key in the round
abbrev pub is_place : Option ℕ → Key → Place → Bool
is_place r k x = same_round x.round r && same_key x.key k

abbrev pub is_listed : List Place → Option ℕ → Key → Bool
is_listed list r k = list_any (is_place r k) list

-- the number of a key in a round: its place in the list, and the list's length where it isn't listed
abbrev pub number_of : List Place → Option ℕ → Key → ℕ
number_of list r k = position_or_len (is_place r k) list

abbrev pub numbers_of : List Place → Option ℕ → List Key → List ℕ
numbers_of list r keys = map (λ k. number_of list r k) keys

-- the list with the key in the round: as it was where it is listed, else with one place more
abbrev pub places_with : List Place → Option ℕ → Key → List Place
places_with list r k = if is_listed list r k then list else list ++ place r k ∷ []

-- ---- nodes, by the priors and the subsequents of each key

-- the node at a place of the list
abbrev pub node_of : (Key → List Key) → (Key → List Key) → List Place → ℕ → Place → Node
node_of p s list n x = record {
  round = x.round;
  key = x.key;
  priors = numbers_of list x.round (p x.key);
  subsequents = numbers_of list (Some n) (s x.key);
}

-- the nodes at the places xs of the list, from the place n on
abbrev pub nodes_from : (Key → List Key) → (Key → List Key) → List Place → ℕ → List Place → List Node
nodes_from p s list n [] = []
nodes_from p s list n (x ∷ xs) = node_of p s list n x ∷ nodes_from p s list (suc n) xs

-- the closure that a list is, of some keys
abbrev pub closure_at : (Key → List Key) → (Key → List Key) → List Place → List Key → Closure
closure_at p s list keys = record { nodes = nodes_from p s list 0 list; invocations = numbers_of list None keys }

-- ---- the least set

-- The least set that has each invocation in the round None; with each key its priors in the same round; and with the
-- key at place n of the list its subsequents in the round that n names.
pub data IsMember (p s : Key → List Key) (keys : List Key) (list : List Place) : Option ℕ → Key → Type 0 where
  invoked : (k : Key) → Contains keys k → IsMember p s keys list None k
  prior : (r : Option ℕ) (k q : Key) → IsMember p s keys list r k → Contains (p k) q → IsMember p s keys list r q
  subsequent : (n : ℕ) (r : Option ℕ) (k q : Key) → IsMember p s keys list r k → slice_get list n ≡ Some (place r k) → Contains (s k) q → IsMember p s keys list (Some n) q

-- The list has each member once, in the order of a run on one thread.
pub record IsClosure (p s : Key → List Key) (keys : List Key) (list : List Place) : Type 0 where
  -- each member is listed
  pub all : (r : Option ℕ) (k : Key) → IsMember p s keys list r k → (n : ℕ) × (slice_get list n ≡ Some (place r k))
  -- nothing else is
  pub only : (n : ℕ) (x : Place) → slice_get list n ≡ Some x → IsMember p s keys list x.round x.key
  -- and nothing twice
  pub once : (n m : ℕ) (x : Place) → slice_get list n ≡ Some x → slice_get list m ≡ Some x → m ≡ n
  -- the priors of a key stand before it, in its round
  pub priors : (n : ℕ) (x : Place) → slice_get list n ≡ Some x → (q : Key) → Contains (p x.key) q → (m : ℕ) × (m < n) × (slice_get list m ≡ Some (place x.round q))
  -- its subsequents stand behind it, in the round that its place names
  pub subsequents : (n : ℕ) (x : Place) → slice_get list n ≡ Some x → (q : Key) → Contains (s x.key) q → (m : ℕ) × (n < m) × (slice_get list m ≡ Some (place (Some n) q))
  -- the place that names a round stands before the round
  pub rounds : (n m : ℕ) (x : Place) → slice_get list n ≡ Some x → x.round ≡ Some m → m < n
