-- How long chains are that lead from one thing to the next.
use Rattle.std.specs.Prelude.{ℕ, zero, suc, Bool, false, if◌then◌else◌, List}
use Rattle.std.specs.List.{list_all}

-- no chain that begins with a thing has more members than that
abbrev pub ends_within : {A : Type 0} → (A → List A) → ℕ → A → Bool
ends_within next zero x = false
ends_within next (suc n) x = list_all (ends_within next n) (next x)

-- how many members a longest chain has that begins with a thing, where none has more than n
abbrev pub longest_within : {A : Type 0} → (A → List A) → ℕ → A → ℕ
longest_within next zero x = zero
longest_within next (suc n) x = if ends_within next n x then longest_within next n x else suc n
