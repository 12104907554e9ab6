-- The lines of a justfile in a markdown text.
use Rattle.std.specs.Prelude.{ℕ, ◌≡◌, ◌⊎◌, true, false, if◌then◌else◌, List, [], ◌∷◌, ◌++◌, map, Some, None}
use Rattle.std.specs.List.{AllByRecursion, flat_map}
use Rattle.std.specs.Str.Lines.{lines}
use Rattle.just_search_load.specs.declared.fence.Fence.{Fence}
use Rattle.just_search_load.specs.Fences.{fence_of, closes}

-- the lines within a block, which are kept where it is one of `just`; else each becomes empty
abbrev pub kept : Fence → List (List ℕ) → List (List ℕ)
kept fence inside = map (λ line. if fence.is_just then line else []) inside

-- lines that don't close the block of a fence
abbrev pub AreInside : Fence → List (List ℕ) → Type 0
AreInside fence inside = AllByRecursion (λ line. closes fence line ≡ false) inside

-- Lines are tangled: those outside of blocks become empty, and so do the fences. A block goes from the line that opens it to the first that
-- closes it, or to the end.
pub data Tangles : List (List ℕ) → List (List ℕ) → Type 0 where
  nothing : Tangles [] []
  outside : (line : List ℕ) (lines out : List (List ℕ)) → fence_of line ≡ None → Tangles lines out → Tangles (line ∷ lines) ([] ∷ out)
  block : (line close : List ℕ) (fence : Fence) (inside lines out : List (List ℕ)) → fence_of line ≡ Some fence → AreInside fence inside → closes fence close ≡ true → Tangles lines out
      → Tangles (line ∷ (inside ++ close ∷ lines)) ([] ∷ (kept fence inside ++ [] ∷ out))
  open_block : (line : List ℕ) (fence : Fence) (inside : List (List ℕ)) → fence_of line ≡ Some fence → AreInside fence inside → Tangles (line ∷ inside) ([] ∷ kept fence inside)

-- each line is kept at its own number, or empty there
abbrev pub KeepPlaces : List (List ℕ) → List (List ℕ) → Type 0
KeepPlaces [] [] = Unit {0}
KeepPlaces [] (y ∷ ys) = ⊥
KeepPlaces (x ∷ xs) [] = ⊥
KeepPlaces (x ∷ xs) (y ∷ ys) = ((y ≡ x) ⊎ (y ≡ [])) × KeepPlaces xs ys

-- the text of lines, each with its end
abbrev pub text_of_lines : List (List ℕ) → List ℕ
text_of_lines out = flat_map (λ line. line ++ 10 ∷ []) out

-- a text is that of the tangled lines of a markdown text
pub record IsTangled (markdown text : List ℕ) : Type 0 where
  pub out : List (List ℕ)
  pub tangles : Tangles (lines markdown) out
  -- the number of lines stays, and a kept line stands at its own number
  pub places : KeepPlaces (lines markdown) out
  pub text_is : text ≡ text_of_lines out
