-- The first rule of a list that is broken.
use Rattle.std.specs.Prelude.{◌≡◌, List, [], ◌∷◌, Option, Some, None, option_map}
use Rattle.just_lang_types.specs.declared.error.CompileKind.{CompileKind}
use Rattle.just_lang_spots.specs.declared.spot.Spot.{Spot}
use Rattle.just_lang_spots.specs.Spots.{first_spot}
use Rattle.just_lang_rulebook.specs.declared.broken.Broken.{Broken}

-- a rule, with the places where it is broken
abbrev pub Asked : Type 0
Asked = CompileKind × List Spot

abbrev pub broken_at : CompileKind → Option Spot → Option Broken
broken_at kind spot = option_map (λ s. record { kind = kind; spot = s }) spot

-- the first answer, else the second
abbrev pub or_behind : Option Broken → Option Broken → Option Broken
or_behind (Some b) behind = Some b
or_behind None behind = behind

-- the first of some rules that is broken, at the first of its places
abbrev pub first_broken : List Asked → Option Broken
first_broken [] = None
first_broken (asked ∷ further) = or_behind (broken_at asked.0 (first_spot asked.1)) (first_broken further)

-- the first answer, where there is one; else one of which P holds
abbrev pub IsAfter : Option Broken → (Option Broken → Type 0) → Option Broken → Type 0
IsAfter (Some b) P answer = answer ≡ Some b
IsAfter None P answer = P answer
