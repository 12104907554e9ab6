-- Module paths as texts.
use Rattle.std.specs.Prelude.{ℕ, List, [], ◌∷◌, ◌++◌, codes}

-- each module of a path with `::` behind it
abbrev pub prefix_of : List (List ℕ) → List ℕ
prefix_of [] = []
prefix_of (n ∷ ns) = n ++ (codes "::" ++ prefix_of ns)
