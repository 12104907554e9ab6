-- Where the script of a child is written.
use Rattle.std.specs.Prelude.{ℕ, List, ◌∷◌, ◌++◌}

-- the path of a name in a folder
abbrev pub path_in : List ℕ → List ℕ → List ℕ
path_in folder name = folder ++ (47 ∷ name)
