-- The numbers of sources: their places in the order of loading.
use Rattle.std.specs.Prelude.{ℕ, ◌≡◌, Bool, List, Option, position, bytes_eq}
use Rattle.std.specs.BTreeMap.{BTreeMap, get}
use Rattle.std.specs.Cmp.Lexicographic.{slice_cmp}
use Rattle.std.specs.Ordering.{nat_cmp}
use Rattle.just_path.specs.Clean.{cleaned}
use Rattle.just_lang_types.specs.declared.source.Source.{Source}

-- whether that is the clean path of a source
abbrev pub is_placed : List ℕ → Source → Bool
is_placed place s = bytes_eq (cleaned s.path) place

-- the number of the source of that clean path
abbrev pub number_at : List Source → List ℕ → Option ℕ
number_at sources place = position (is_placed place) sources

-- the number of the source of a path, which may be written in several ways
abbrev pub number_of : List Source → List ℕ → Option ℕ
number_of sources path = number_at sources (cleaned path)

-- the map has the number of each source at its clean path, and nothing else
abbrev pub AreNumbered : List Source → BTreeMap (List ℕ) ℕ → Type 0
AreNumbered sources numbers = (place : List ℕ) → get (slice_cmp nat_cmp) numbers place ≡ number_at sources place
