-- Places in the order of the sources, and the first of a list.
use Rattle.std.specs.Prelude.{◌≡◌, All, Contains, ◌==◌, not, nat_lt, Bool, false, if◌then◌else◌, List, [], ◌∷◌, Option, Some, None}
use Rattle.just_lang_spots.specs.declared.spot.Spot.{Spot}

abbrev pub comes_before : Spot → Spot → Bool
comes_before a b =
    if not (a.file == b.file) then nat_lt a.file b.file
    else (if not (a.line == b.line) then nat_lt a.line b.line
    else nat_lt a.column b.column)

abbrev pub earlier : Option Spot → Option Spot → Option Spot
earlier None other = other
earlier (Some a) None = Some a
earlier (Some a) (Some b) = if comes_before b a then Some b else Some a

-- the place, where a test holds
abbrev pub spot_where : Bool → Spot → List Spot
spot_where test spot = if test then spot ∷ [] else []

-- the first of some places in the order of the sources
abbrev pub first_spot : List Spot → Option Spot
first_spot [] = None
first_spot (x ∷ xs) = earlier (Some x) (first_spot xs)

-- one of the places before which none of them comes; none, where there are none
abbrev pub IsFirstOf : List Spot → Option Spot → Type 0
IsFirstOf spots None = spots ≡ []
IsFirstOf spots (Some s) = Contains spots s × All (λ t. comes_before t s ≡ false) spots
