-- The last value of each name of some pairs, at hand in a map.
use Rattle.std.specs.Prelude.{ℕ, ◌≡◌, List}
use Rattle.std.specs.BTreeMap.{BTreeMap, get}
use Rattle.std.specs.Cmp.Lexicographic.{slice_cmp}
use Rattle.std.specs.Ordering.{nat_cmp}
use Rattle.just_path_text.specs.Environ.{value_of}
use Rattle.just_dotenv.specs.Meaning.{Pairs}

-- the map has at each name the value of the last pair of that name, and nothing else
abbrev pub AreLastValues : Pairs → BTreeMap (List ℕ) (List ℕ) → Type 0
AreLastValues pairs values = (name : List ℕ) → get (slice_cmp nat_cmp) values name ≡ value_of name pairs
