-- What becomes of a part of a listing: lines are added, a module gives way to its parts.
use Rattle.std.specs.Prelude.{ℕ, List, []}
use Rattle.just_print_entries.specs.declared.options.ListOptions.{ListOptions}
use Rattle.just_print_entries.specs.declared.part.Part.{Part}
use Rattle.just_print_entries.specs.declared.part.Part.TheVariants as part
use Rattle.just_print_entries.specs.Listings.{Piece, pieces}
use Rattle.just_print_entries.specs.Listings.Piece.{lines, inner}

-- a part without where its module lies in memory
abbrev pub piece_of : Part → Piece
piece_of (part.Lines text) = lines text
piece_of (part.Inner indent m) = inner indent m.now

abbrev pub added : Piece → List ℕ
added (lines text) = text
added (inner indent m) = []

abbrev pub opened : ListOptions → Piece → List Piece
opened o (lines text) = []
opened o (inner indent m) = pieces o [] indent m
