-- The members of a set of numbers, which are flagged, and the blocks of 64 numbers that may have one.
use Rattle.std.specs.Prelude.{ℕ, ◌+◌, ◌*◌, ◌<◌, ◌≡◌, Bool, true, false, List, slice_index_or}

-- the number is flagged; none past the last flag is
abbrev pub is_member : List Bool → ℕ → Bool
is_member flags n = slice_index_or flags n false

-- the block of each member is flagged
abbrev pub IsNoted : List Bool → List Bool → Type 0
IsNoted flags blocks = (b k : ℕ) → k < 64 → is_member flags (64 * b + k) ≡ true → is_member blocks b ≡ true
