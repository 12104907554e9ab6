-- The names of a list that stand behind an equal one.
use Rattle.std.specs.Prelude.{ℕ, Bool, List, [], ◌∷◌, ◌++◌, bytes_eq}
use Rattle.std.specs.List.{list_any}
use Rattle.just_lang_spots.specs.declared.spot.Spot.{Spot}
use Rattle.just_lang_spots.specs.declared.repeated.Named.{Named}
use Rattle.just_lang_spots.specs.Spots.{spot_where}

-- whether a name is one of some
abbrev pub is_among : List ℕ → List (List ℕ) → Bool
is_among name names = list_any (λ other. bytes_eq other name) names

-- the places of those that are among the names before them
abbrev pub repeated_behind : List (List ℕ) → List (List ℕ × Spot) → List Spot
repeated_behind names [] = []
repeated_behind names (x ∷ xs) = spot_where (is_among x.0 names) x.1 ++ repeated_behind (names ++ x.0 ∷ []) xs

-- the places of the names that stand behind an equal one
abbrev pub repeated : List (List ℕ × Spot) → List Spot
repeated xs = repeated_behind [] xs

-- a name and its place
abbrev pub named : Named → List ℕ × Spot
named x = (x.name.now, x.spot)
