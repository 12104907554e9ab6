-- Graphs, as the list of each node's targets. The nodes are the numbers below the length of this list.
use Rattle.std.specs.Prelude.{◌≡◌, ◌⊎◌, ℕ, ◌<◌, List, [], ◌∷◌, length, get_or, take, Option, Some, None, All, Contains}

-- the targets of a node's edges
abbrev pub targets : List (List ℕ) → ℕ → List ℕ
targets edges v = get_or edges v []

-- each edge leads to a node
abbrev pub IsGraph : List (List ℕ) → Type 0
IsGraph edges = All (λ ws. All (λ w. w < length edges) ws) edges

-- there is a path of one edge or more from the one to the other
pub data Reaches (edges : List (List ℕ)) : ℕ → ℕ → Type 0 where
  edge : (v w : ℕ) → Contains (targets edges v) w → Reaches edges v w
  along : (v w x : ℕ) → Contains (targets edges v) w → Reaches edges w x → Reaches edges v x

abbrev pub IsOnCycle : List (List ℕ) → ℕ → Type 0
IsOnCycle edges v = Reaches edges v v

-- no node lies on a cycle
abbrev pub IsAcyclic : List (List ℕ) → Type 0
IsAcyclic edges = (v : ℕ) → IsOnCycle edges v → ⊥

-- the node or one that it reaches lies on a cycle
abbrev pub LeadsToCycle : List (List ℕ) → ℕ → Type 0
LeadsToCycle edges v = (w : ℕ) × ((v ≡ w) ⊎ Reaches edges v w) × IsOnCycle edges w

-- each node stands behind all its targets
abbrev pub IsOrder : List (List ℕ) → List ℕ → Type 0
IsOrder edges order = (k : ℕ) → k < length order → All (Contains (take k order)) (targets edges (get_or order k 0))

-- the first item of a list that is in a set
abbrev pub IsFirst : (ℕ → Type 0) → List ℕ → Option ℕ → Type 0
IsFirst P [] o = o ≡ None
IsFirst P (x ∷ xs) o = (P x × (o ≡ Some x)) ⊎ ((P x → ⊥) × IsFirst P xs o)
