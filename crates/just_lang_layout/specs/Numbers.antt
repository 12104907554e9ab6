-- The numbers of files at their paths.
use Rattle.std.specs.Prelude.{ℕ, ◌≡◌, List}
use Rattle.std.specs.BTreeMap.{BTreeMap, get}
use Rattle.std.specs.Cmp.Lexicographic.{slice_cmp}
use Rattle.std.specs.Ordering.{nat_cmp}
use Rattle.just_lang_layout.specs.Targets.{number_of}

-- the map has at each path the number of the first file of that path, and nothing else
abbrev pub AreNumbers : List (List ℕ) → BTreeMap (List ℕ) ℕ → Type 0
AreNumbers paths numbers = (path : List ℕ) → get (slice_cmp nat_cmp) numbers path ≡ number_of paths path
