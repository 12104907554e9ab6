-- Where a fresh folder of the system is.
use Rattle.std.specs.Prelude.{ℕ, ◌≡◌, List, ◌++◌, Option, Some, None}
use Rattle.just_path.specs.Path.{pushed}

-- a path in a folder; its name begins with that prefix
abbrev pub IsNamedIn : List ℕ → List ℕ → List ℕ → Type 0
IsNamedIn folder prefix path = (rest : List ℕ) × (path ≡ pushed folder (prefix ++ rest))

-- the same in the folder that is asked for; where none is, in one that the system chooses
abbrev pub IsTemporary : Option (List ℕ) → List ℕ → List ℕ → Type 0
IsTemporary None prefix path = (folder : List ℕ) × IsNamedIn folder prefix path
IsTemporary (Some folder) prefix path = IsNamedIn folder prefix path
