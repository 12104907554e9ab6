-- Lines that are tangled one by one are tangled block by block.
use Rattle.std.proofs.Common.{◌≡◌, ◌⊎◌, inl, inr, ℕ, Bool, true, false, List, [], ◌∷◌, ◌++◌, Option, Some, None, refl}
use Rattle.std.specs.Prelude.{if◌then◌else◌}
use Rattle.just_search_load.specs.declared.fence.Fence.{Fence}
use Rattle.just_search_load.specs.Fences.{fence_of, closes}
use Rattle.just_search_load.specs.Running.{line_out, fence_behind, out_of}
use Rattle.just_search_load.specs.Tangles.{Tangles, AreInside, kept, KeepPlaces}

-- what stands behind a line that opens a block
data FromBlock (fence : Fence) : List (List ℕ) → List (List ℕ) → Type 0 where
  ends : (inside : List (List ℕ)) → AreInside fence inside → FromBlock fence inside (kept fence inside)
  goes_on : (inside : List (List ℕ)) (close : List ℕ) (lines out : List (List ℕ)) → AreInside fence inside → closes fence close ≡ true → Tangles lines out → FromBlock fence (inside ++ close ∷ lines) (kept fence inside ++ [] ∷ out)

-- one more line within
within : (fence : Fence) (line : List ℕ) (lines out : List (List ℕ)) → closes fence line ≡ false → FromBlock fence lines out → FromBlock fence (line ∷ lines) ((if fence.is_just then line else []) ∷ out)
within fence line _ _ within_it (ends inside h) = ends (line ∷ inside) (within_it, h)
within fence line _ _ within_it (goes_on inside close lines out h closed so) = goes_on (line ∷ inside) close lines out (within_it, h) closed so

-- the line that opens it, in front
opened : (fence : Fence) (line : List ℕ) (lines out : List (List ℕ)) → fence_of line ≡ Some fence → FromBlock fence lines out → Tangles (line ∷ lines) ([] ∷ out)
opened fence line _ _ is (ends inside h) = Tangles.open_block line fence inside is h
opened fence line _ _ is (goes_on inside close lines out h closed so) = Tangles.block line close fence inside lines out is h closed so

outside_of : (line : List ℕ) (lines : List (List ℕ)) (o : Option Fence) → fence_of line ≡ o → Tangles lines (out_of None lines) → ((fence : Fence) → FromBlock fence lines (out_of (Some fence) lines)) → Tangles (line ∷ lines) ([] ∷ out_of o lines)
outside_of line lines None is so within_so = Tangles.outside line lines (out_of None lines) is so
outside_of line lines (Some fence) is so within_so = opened fence line lines (out_of (Some fence) lines) is (within_so fence)

inside_of : (fence : Fence) (line : List ℕ) (lines : List (List ℕ)) (b : Bool) → closes fence line ≡ b → Tangles lines (out_of None lines) → FromBlock fence lines (out_of (Some fence) lines)
    → FromBlock fence (line ∷ lines) ((if b then [] else (if fence.is_just then line else [])) ∷ out_of (if b then None else Some fence) lines)
inside_of fence line lines true is so within_so = goes_on [] line lines (out_of None lines) tt is so
inside_of fence line lines false is so within_so = within fence line lines (out_of (Some fence) lines) is within_so

both : (lines : List (List ℕ)) → Tangles lines (out_of None lines) × ((fence : Fence) → FromBlock fence lines (out_of (Some fence) lines))
both [] = (Tangles.nothing, λ fence. ends [] tt)
both (line ∷ lines) =
    let so = both lines in
    (outside_of line lines (fence_of line) refl so.0 so.1, λ fence. inside_of fence line lines (closes fence line) refl so.0 (so.1 fence))

pub tangled : (lines : List (List ℕ)) → Tangles lines (out_of None lines)
tangled lines = (both lines).0

kept_or_empty : (b c : Bool) (line : List ℕ) → ((if b then [] else (if c then line else [])) ≡ line) ⊎ ((if b then [] else (if c then line else [])) ≡ [])
kept_or_empty true c line = inr refl
kept_or_empty false true line = inl refl
kept_or_empty false false line = inr refl

same_or_empty : (block : Option Fence) (line : List ℕ) → (line_out block line ≡ line) ⊎ (line_out block line ≡ [])
same_or_empty None line = inr refl
same_or_empty (Some fence) line = kept_or_empty (closes fence line) fence.is_just line

pub places : (block : Option Fence) (lines : List (List ℕ)) → KeepPlaces lines (out_of block lines)
places block [] = tt
places block (line ∷ lines) = (same_or_empty block line, places (fence_behind block line) lines)
