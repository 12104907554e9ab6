-- What an environment says of a name.
use Rattle.std.specs.Prelude.{ℕ, List, [], ◌∷◌, Option, Some, None, if◌then◌else◌, codes}
use Rattle.std.specs.Str.{bytes_eq}

-- the first answer, else the second
abbrev pub or_else : {A : Type 0} → Option A → Option A → Option A
or_else (Some x) other = Some x
or_else None other = other

-- the value of the last pair of that name
abbrev pub value_of : List ℕ → List (List ℕ × List ℕ) → Option (List ℕ)
value_of name [] = None
value_of name (p ∷ ps) = or_else (value_of name ps) (if bytes_eq p.0 name then Some p.1 else None)

-- a text that isn't empty
abbrev pub unless_empty : Option (List ℕ) → Option (List ℕ)
unless_empty None = None
unless_empty (Some []) = None
unless_empty (Some (b ∷ bs)) = Some (b ∷ bs)

-- the home folder: the value of `HOME`, where it isn't empty
abbrev pub home_of : List (List ℕ × List ℕ) → Option (List ℕ)
home_of pairs = unless_empty (value_of (codes "HOME") pairs)
