-- The hashes of names: numbers by which these are kept, which are seldom one for two of them.
use Rattle.std.specs.Prelude.{ℕ, ◌+◌, ◌*◌, ◌%◌, ◌^◌, List}
use Rattle.std.specs.List.{fold}

-- a hash with a digit more, of 257
unfoldable pub with_digit : ℕ → ℕ → ℕ
with_digit hash d = ((hash * 257) % 2 ^ 64 + d) % 2 ^ 64

-- the bytes of a name as digits, modulo 2 ^ 64
abbrev pub name_hash : List ℕ → ℕ
name_hash name = fold with_digit 0 name
