-- Which node each node's quality comes from.
use Rattle.std.specs.Prelude.{◌≡◌, ℕ, ◌<◌, Bool, false, if◌then◌else◌, List, [], ◌∷◌, length, map, get_or, Option, Some, None}
use Rattle.just_lang_spots.specs.Graph.{targets}

-- the first that is there
abbrev pub first_there : List (Option ℕ) → Option ℕ
first_there [] = None
first_there (None ∷ os) = first_there os
first_there (Some v ∷ os) = Some v

-- where a node's quality comes from: itself, where it has it of its own, else where that of the first target that has it comes from
abbrev pub origin_at : List (List ℕ) → List Bool → List (Option ℕ) → ℕ → Option ℕ
origin_at edges own origins v =
    if get_or own v false then Some v else first_there (map (λ w. get_or origins w None) (targets edges v))

-- the origins of all nodes; where no node lies on a cycle there is one such list
pub record AreOrigins (edges : List (List ℕ)) (own : List Bool) (origins : List (Option ℕ)) : Type 0 where
  pub size : length origins ≡ length edges
  pub each : (v : ℕ) → v < length edges → get_or origins v None ≡ origin_at edges own origins v
