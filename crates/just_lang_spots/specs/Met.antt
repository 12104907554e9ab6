-- What is met when some nodes are met one after the other, each once.
use Rattle.std.specs.Prelude.{◌≡◌, ℕ, ◌+◌, ◌-◌, ◌<◌, Bool, true, false, if◌then◌else◌, List, [], ◌∷◌, ◌++◌, length, get_or, set, All, AllPairs, Contains, sum_by, ◌≢◌}
use Rattle.just_lang_spots.specs.Graph.{targets, IsOrder}

-- whether a node is marked
abbrev pub is_marked : List Bool → ℕ → Bool
is_marked marks v = get_or marks v false

-- the marks and the list of the marked nodes, after some more nodes
abbrev pub met_after : List Bool → List ℕ → List Bool
met_after marks [] = marks
met_after marks (v ∷ vs) = if is_marked marks v then met_after marks vs else met_after (set marks v true) vs

abbrev pub list_after : List Bool → List ℕ → List ℕ → List ℕ
list_after marks list [] = list
list_after marks list (v ∷ vs) = if is_marked marks v then list_after marks list vs else list_after (set marks v true) (list ++ v ∷ []) vs

abbrev pub unmarked : Bool → ℕ
unmarked true = 0
unmarked false = 1

-- the marked nodes are those listed, each once, and each is in a set
pub record AreMarked (P : ℕ → Type 0) (marks : List Bool) (list : List ℕ) : Type 0 where
  pub within : All (λ v. v < length marks) list
  pub listed : (v : ℕ) → is_marked marks v ≡ true → Contains list v
  pub marked : All (λ v. is_marked marks v ≡ true) list
  pub each : All P list
  pub once : AllPairs (λ v w. v ≢ w) list
  pub counted : length list + sum_by unmarked marks ≡ length marks

-- each node that isn't marked has a target that isn't
abbrev pub NoneFree : List (List ℕ) → List Bool → Type 0
NoneFree edges marks = (v : ℕ) → v < length edges → is_marked marks v ≡ false → (w : ℕ) × Contains (targets edges v) w × (w < length edges) × (is_marked marks w ≡ false)

-- a node that isn't marked, and all its targets are
pub record IsFree (edges : List (List ℕ)) (marks : List Bool) (v : ℕ) : Type 0 where
  pub within : v < length edges
  pub left : is_marked marks v ≡ false
  pub targets_marked : All (λ w. is_marked marks w ≡ true) (targets edges v)

-- the marked nodes are those of the order, each once; in it each stands behind its targets
pub record ArePeeled (edges : List (List ℕ)) (marks : List Bool) (order : List ℕ) : Type 0 where
  pub marked : AreMarked (λ v. v < length edges) marks order
  pub size : length marks ≡ length edges
  pub behind : IsOrder edges order

-- how many targets aren't looked at yet, where so many of each node's are
abbrev pub steps_left : List (List ℕ) → List ℕ → ℕ
steps_left [] seen = 0
steps_left (ws ∷ edges) [] = 0
steps_left (ws ∷ edges) (n ∷ seen) = (length ws - n) + steps_left edges seen
