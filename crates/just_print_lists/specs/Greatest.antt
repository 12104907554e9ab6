-- The greatest of some numbers.
use Rattle.std.specs.Prelude.{ℕ, nat_lt, if◌then◌else◌, List}
use Rattle.std.specs.List.{fold}

-- the greater of two
abbrev pub greater : ℕ → ℕ → ℕ
greater n m = if nat_lt n m then m else n

-- the greatest; 0 where there is none
abbrev pub greatest : List ℕ → ℕ
greatest ns = fold greater 0 ns
