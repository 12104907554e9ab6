-- What a text that was read is to what was told, and the pair of an entry of an environment.
use Rattle.std.specs.Prelude.{ℕ, ◌≡◌, ◌==◌, ◌&&◌, not, nat_lt, if◌then◌else◌, List, [], ◌∷◌, length, Result, Ok, Err, string_bytes}
use Rattle.std.specs.List.{position_or_len, before_first, after_first}
use Rattle.just_path.specs.Comps.{is_empty}
use Rattle.std.specs.declared.string.String.{String}
use Rattle.std.specs.declared.alloc.Global.{Global}
use Rattle.just_path.specs.declared.host.Miss.{Miss}

-- a text is the one that is told, and a miss too
abbrev pub Tells : Result (List ℕ) Miss → Result (String Global) Miss → Type 0
Tells told (Ok s) = told ≡ Ok (string_bytes s)
Tells told (Err m) = told ≡ Err m

-- the pair of a text `NAME=VALUE`, split at its first `=`; none where there is no `=` or no name
abbrev pub pairs_in : List ℕ → List (List ℕ × List ℕ)
pairs_in text =
    if nat_lt (position_or_len (λ b. b == 61) text) (length text) && not (is_empty (before_first (λ b. b == 61) text))
    then (before_first (λ b. b == 61) text, after_first (λ b. b == 61) text) ∷ [] else []
