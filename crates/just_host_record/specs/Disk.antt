-- The disk that a host may tell: what its cache entries keep where a run is stopped.
use Rattle.std.specs.Prelude.{ℕ, ◌≡◌, List, Option, None}
use Rattle.std.specs.Ordering.{nat_cmp}
use Rattle.std.specs.Cmp.Lexicographic.{slice_cmp}
use Rattle.std.specs.FinMap.{FinMap}

-- a cache entry on the disk: its kept bytes, or none, and the bytes of each write to it that was begun since they were kept, in order
pub record DiskEntry : Type 0 where
  pub kept : Option (List ℕ)
  pub begun : List (List ℕ)

-- the cache entries by their places. Nothing is kept of one that isn't here, and no write to it was begun
abbrev pub Disk : Type 0
Disk = FinMap (slice_cmp nat_cmp) DiskEntry

-- where no disk was told none is told
abbrev pub StaysUntold : Option Disk → Option Disk → Type 0
StaysUntold old new = old ≡ None → new ≡ None
