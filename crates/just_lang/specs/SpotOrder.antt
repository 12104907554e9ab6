-- Places with their numbers.
use Rattle.std.specs.Prelude.{ℕ, suc, List, [], ◌∷◌, get_or}
use Rattle.just_lang_spots.specs.declared.spot.Spot.{Spot}

-- the file, the line and the column of a place, and its number
abbrev pub Key : Type 0
Key = ℕ × ℕ × ℕ × ℕ

-- the places of a list with their numbers, where the first of these has that number
abbrev pub numbered_from : ℕ → List Spot → List Key
numbered_from n [] = []
numbered_from n (s ∷ ss) = (s.file, s.line, s.column, n) ∷ numbered_from (suc n) ss

abbrev pub spot_of_key : Key → Spot
spot_of_key k = record { file = k.0; line = k.1; column = k.2 }

-- no place: a number that isn't there has it
abbrev pub nowhere : Spot
nowhere = record { file = 0; line = 0; column = 0 }

-- the place of the node whose number stands at that place of a list
abbrev pub spot_at : List Spot → List ℕ → ℕ → Spot
spot_at spots nodes i = get_or spots (get_or nodes i 0) nowhere
