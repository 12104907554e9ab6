-- Which files import which, straight or through others.
use Rattle.std.specs.Prelude.{◌≡◌, ◌↔◌, ℕ, ◌<◌, nat_lt, nat_eq, Bool, true, List, [], map, filter, length, get_or}
use Rattle.std.specs.List.{list_any}
use Rattle.just_lang_spots.specs.Graph.{Reaches}
use Rattle.just_lang_spots.specs.Met.{is_marked}
use Rattle.just_lang_spots.specs.Winners.{wins_in}

-- of each file's imports those that are files
abbrev pub own_imports : List (List ℕ) → List (List ℕ)
own_imports imports = map (filter (λ n. nat_lt n (length imports))) imports

-- whether the one file is marked among those that the other imports
abbrev pub is_reached : List (List Bool) → ℕ → ℕ → Bool
is_reached table f g = is_marked (get_or table f []) g

-- for each file the marks of those that it imports, straight or through others
pub record AreReached (edges : List (List ℕ)) (table : List (List Bool)) : Type 0 where
  pub size : length table ≡ length edges
  pub each : (f g : ℕ) → f < length edges → (is_reached table f g ≡ true) ↔ Reaches edges f g

-- the files in whose marks this one is
abbrev pub AreImportersOf : List (List Bool) → ℕ → List ℕ → Type 0
AreImportersOf table g importers = (f : ℕ) → list_any (nat_eq f) importers ≡ is_reached table f g

-- for each file the list of these
pub record AreImportersOfEach (table : List (List Bool)) (winners : List (List ℕ)) : Type 0 where
  pub size : length winners ≡ length table
  pub each : (g : ℕ) → g < length table → AreImportersOf table g (get_or winners g [])

-- for each file the table has those that import it, straight or through others
abbrev pub AreImporters : List (List ℕ) → List (List ℕ) → Type 0
AreImporters imports winners = (f g : ℕ) → (wins_in winners f g ≡ true) ↔ Reaches (own_imports imports) f g
