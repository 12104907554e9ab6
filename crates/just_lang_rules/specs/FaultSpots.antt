-- The files whose texts are refused, by the kinds of their faults, and those that are too many.
use Rattle.std.specs.Prelude.{ℕ, nat_lt, Bool, true, false, List, [], Option, Some, None}
use Rattle.just_lang_syntax.specs.declared.error.FaultKind.{FaultKind}
use Rattle.just_lang_syntax.specs.declared.error.FaultKind.TheVariants.{Syntax, Unsupported, Depth}
use Rattle.just_lang_syntax.specs.declared.error.Fault.{Fault}
use Rattle.just_lang_spots.specs.declared.spot.Spot.{Spot}
use Rattle.just_lang_spots.specs.Spots.{spot_where}

abbrev pub is_same_kind : FaultKind → FaultKind → Bool
is_same_kind Syntax Syntax = true
is_same_kind Syntax Unsupported = false
is_same_kind Syntax Depth = false
is_same_kind Unsupported Syntax = false
is_same_kind Unsupported Unsupported = true
is_same_kind Unsupported Depth = false
is_same_kind Depth Syntax = false
is_same_kind Depth Unsupported = false
is_same_kind Depth Depth = true

-- the place of a file's fault, where it has one of that kind
abbrev pub fault_spot : FaultKind → ℕ → Option Fault → List Spot
fault_spot kind file None = []
fault_spot kind file (Some fault) =
    spot_where (is_same_kind kind fault.kind) (record { file = file; line = fault.line; column = fault.column })

-- the beginning of the first file behind 4,096 others
abbrev pub source_limit_spot : ℕ → List Spot
source_limit_spot files = spot_where (nat_lt 4096 files) (record { file = 4096; line = 1; column = 1 })
