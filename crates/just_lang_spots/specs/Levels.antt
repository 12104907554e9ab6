-- Levels of nodes that no edge leads down from.
use Rattle.std.specs.Prelude.{◌≡◌, ℕ, ◌<◌, nat_le, nat_lt, Bool, true, List, length, get_or}
use Rattle.std.specs.List.{list_all}
use Rattle.just_lang_spots.specs.Graph.{targets}

abbrev pub level : List ℕ → ℕ → ℕ
level levels v = get_or levels v 0

-- whether a node's level is at most, and whether it is below, that of each of its targets
abbrev pub is_at_most_targets : List (List ℕ) → List ℕ → ℕ → Bool
is_at_most_targets edges levels v = list_all (λ w. nat_le (level levels v) (level levels w)) (targets edges v)

abbrev pub is_below_targets : List (List ℕ) → List ℕ → ℕ → Bool
is_below_targets edges levels v = list_all (λ w. nat_lt (level levels v) (level levels w)) (targets edges v)

-- no edge leads to a lower level
pub record AreLevels (edges : List (List ℕ)) (levels : List ℕ) : Type 0 where
  pub size : length levels ≡ length edges
  pub rising : (v : ℕ) → v < length edges → is_at_most_targets edges levels v ≡ true
