-- Flags of nodes: lists with one flag for each node of a plan.
use Rattle.std.specs.Prelude.{ℕ, ◌≡◌, ◌<◌, Bool, true, false, List, length, slice_index, slice_index_or, Option, Some, None}

-- the flag of a node; false past the last one
abbrev pub flag : List Bool → ℕ → Bool
flag flags n = slice_index_or flags n false

-- each flag says this of its node
abbrev pub FlagsAre : List Bool → (ℕ → Bool) → Type 0
FlagsAre flags f = (k : ℕ) → k < length flags → flag flags k ≡ f k

-- each flag says whether this holds of its node
abbrev pub FlagsMean : List Bool → (ℕ → Type 0) → Type 0
FlagsMean flags P = (k : ℕ) → k < length flags → (flag flags k ≡ true → P k) × (flag flags k ≡ false → P k → ⊥)

-- each number of the list is that of a flag
abbrev pub InRange : List ℕ → List Bool → Type 0
InRange xs flags = (j : ℕ) → j < length xs → slice_index xs j < length flags

-- the first of two, where there is one, else the second
abbrev pub or_first : {A : Type 0} → Option A → Option A → Option A
or_first (Some x) o = Some x
or_first None o = o
