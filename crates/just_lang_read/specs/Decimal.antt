-- Decimal numbers.
use Rattle.std.specs.Prelude.{ℕ, Bool, false, ◌&&◌, ◌==◌, if◌then◌else◌, nat_le, nat_lt, ◌+◌, ◌*◌, ◌-◌, ◌^◌, List, [], ◌∷◌, Option, Some, None}
use Rattle.just_lang_read.specs.Characters.{is_digit}

-- the number that a number's digits and these make, where it is below 2 ^ 64
abbrev pub number_from : ℕ → List ℕ → Option ℕ
number_from n [] = Some n
number_from n (c ∷ cs) = if is_digit c && nat_lt (n * 10 + (c - 48)) (2 ^ 64) then number_from (n * 10 + (c - 48)) cs else None

-- the number of a text: digits without a sign, and without a zero in front
abbrev pub decimal : List ℕ → Option ℕ
decimal [] = None
decimal (c ∷ []) = number_from 0 (c ∷ [])
decimal (c ∷ (d ∷ cs)) = if c == 48 then None else number_from 0 (c ∷ (d ∷ cs))

-- whether it is a number from the least to the greatest
abbrev pub is_number_within : ℕ → ℕ → Option ℕ → Bool
is_number_within least greatest None = false
is_number_within least greatest (Some n) = nat_le least n && nat_le n greatest
