-- The closure of some keys.
use Rattle.std.specs.Prelude.{ℕ, suc, ◌≡◌, List, [], ◌∷◌, Some, None, Ok}
use Rattle.just_lang_types.specs.declared.key.Key.{Key}
use Rattle.just_lang_types.specs.declared.node.Closure.{Closure}
use Rattle.just_lang_types.specs.declared.node.Node.{Node}
use Rattle.just_lang_types.specs.declared.place.Place.{Place}
use Rattle.just_eval_closure.specs.declared.walk.Beside.{Beside}
use Rattle.just_eval_closure.specs.Places.{numbers_of, closure_at, IsClosure}
use Rattle.just_eval_closure.specs.Visits.{Around, Visits, priors_by, subsequents_by}

-- the closure has a node for each place that the visits of the keys give, and these places are the least set
pub record IsClosureOf (around : Key → Around) (keys : List Key) (c : Closure) : Type 0 where
  pub list : List Place
  pub visits : Visits around (Ok []) None keys (Ok list)
  pub least : IsClosure (priors_by around) (subsequents_by around) keys list
  pub nodes_are : c ≡ closure_at (priors_by around) (subsequents_by around) list keys

-- the node of a place, by what stands beside it
abbrev pub node_beside : List Place → ℕ → Place → Beside → Node
node_beside list n x b = record { round = x.round; key = x.key; priors = b.priors; subsequents = numbers_of list (Some n) b.subsequents }

-- the nodes of some places, from the place n on
abbrev pub nodes_beside : List Place → ℕ → List Place → List Beside → List Node
nodes_beside list n [] beside = []
nodes_beside list n (x ∷ xs) [] = []
nodes_beside list n (x ∷ xs) (b ∷ bs) = node_beside list n x b ∷ nodes_beside list (suc n) xs bs

-- the numbers of the priors and of the subsequents of each place, from the place n on
abbrev pub numbers_beside : List Place → ℕ → List Beside → List (List ℕ × List ℕ)
numbers_beside list n [] = []
numbers_beside list n (b ∷ bs) = (b.priors, numbers_of list (Some n) b.subsequents) ∷ numbers_beside list (suc n) bs

-- the nodes of places with these numbers
abbrev pub nodes_with : List Place → List (List ℕ × List ℕ) → List Node
nodes_with [] numbers = []
nodes_with (x ∷ xs) [] = []
nodes_with (x ∷ xs) (m ∷ ms) = record { round = x.round; key = x.key; priors = m.0; subsequents = m.1 } ∷ nodes_with xs ms
