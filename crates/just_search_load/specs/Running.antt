-- Tangling, line by line.
use Rattle.std.specs.Prelude.{ℕ, if◌then◌else◌, List, [], ◌∷◌, Option, Some, None}
use Rattle.just_search_load.specs.declared.fence.Fence.{Fence}
use Rattle.just_search_load.specs.Fences.{fence_of, closes}

-- what a line becomes, where the block of a fence is open or none is
abbrev pub line_out : Option Fence → List ℕ → List ℕ
line_out None line = []
line_out (Some fence) line = if closes fence line then [] else (if fence.is_just then line else [])

-- the fence of the block that is open behind it
abbrev pub fence_behind : Option Fence → List ℕ → Option Fence
fence_behind None line = fence_of line
fence_behind (Some fence) line = if closes fence line then None else Some fence

abbrev pub out_of : Option Fence → List (List ℕ) → List (List ℕ)
out_of block [] = []
out_of block (line ∷ lines) = line_out block line ∷ out_of (fence_behind block line) lines
