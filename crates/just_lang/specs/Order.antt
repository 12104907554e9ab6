-- The first of some rules that is broken.
use Rattle.std.specs.Prelude.{◌≡◌, ◌⊎◌, List, [], ◌∷◌, Option, Some, None}
use Rattle.just_lang_types.specs.declared.error.CompileKind.{CompileKind}
use Rattle.just_lang_spots.specs.declared.spot.Spot.{Spot}
use Rattle.just_lang_rulebook.specs.declared.broken.Broken.{Broken}
use Rattle.just_lang.specs.Cycles.{IsFirstSpot}

abbrev pub broken : CompileKind → Spot → Broken
broken kind spot = record { kind = kind; spot = spot }

-- the first broken rule of some kinds, where `breaks` has for each kind the places at which its rule is broken: that of the first kind, at the first of its
-- places; or that one is broken nowhere, and it is the first of the other kinds; none, where there is no further kind
abbrev pub IsFirstBroken : (CompileKind → Spot → Type 0) → List CompileKind → Option Broken → Type 0
IsFirstBroken breaks [] answer = answer ≡ None
IsFirstBroken breaks (kind ∷ kinds) answer =
    ((spot : Spot) × IsFirstSpot (breaks kind) (Some spot) × (answer ≡ Some (broken kind spot))) ⊎ (IsFirstSpot (breaks kind) None × IsFirstBroken breaks kinds answer)
