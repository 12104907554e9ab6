-- What is left follows what was added.
use Rattle.std.proofs.Common.{◌≡◌, ◌++◌, false, drop, map}
use Rattle.just_print_entries.specs.Listings.{inner_pieces}
use Rattle.just_print_entries.specs.Written.{piece_of}
use Rattle.just_print_entries.proofs.pieces.push_inners.Given as goal

abbrev pub invariant-modules : goal.invariant-modules
invariant-modules l =
    map piece_of l.parts.items ++ inner_pieces l.options l.frame.indent.now l.frame.columns l.frame.has_named l.is_later (map (λ m. m.now) (drop l.outer-index l.modules))
    ≡ map piece_of l.initial.parts.items ++ inner_pieces l.options l.frame.indent.now l.frame.columns l.frame.has_named false (map (λ m. m.now) l.modules)
