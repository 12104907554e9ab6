-- Where a module stands, and tables of modules by that.
use Rattle.std.specs.Prelude.{◌≡◌, ℕ, nat_eq, ◌&&◌, if◌then◌else◌, List, [], ◌∷◌, ◌++◌, Option, Some, None, bytes_eq}
use denote.Ref.{Bor}

-- the number of a path without its last name, and that name; or that path has no number
abbrev pub StandsIn : (List (List ℕ) → Option ℕ) → List (List ℕ) → Option (ℕ × Bor (List ℕ)) → Type 0
StandsIn number_of path None = (outer : List (List ℕ)) (name : List ℕ) → path ≡ outer ++ name ∷ [] → number_of outer ≡ None
StandsIn number_of path (Some x) = (outer : List (List ℕ)) × (path ≡ outer ++ x.1.now ∷ []) × (number_of outer ≡ Some x.0)

-- a table by a number and a name, with one more entry where there is a key
abbrev pub entered : Option (ℕ × Bor (List ℕ)) → ℕ → (ℕ → List ℕ → Option ℕ) → ℕ → List ℕ → Option ℕ
entered None number before outer q = before outer q
entered (Some key) number before outer q = if nat_eq key.0 outer && bytes_eq key.1.now q then Some number else before outer q
