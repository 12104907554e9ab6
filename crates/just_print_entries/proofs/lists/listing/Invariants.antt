-- What is pending comes behind what was written.
use Rattle.std.proofs.Common.{map, string_bytes}
use Rattle.just_print_entries.specs.Listings.{pieces}
use Rattle.just_print_entries.specs.Written.{piece_of}
use Rattle.just_print_entries.proofs.Writing.{Leads}
use Rattle.just_print_entries.proofs.PieceWeights.{piece_weights}
use Rattle.just_print_entries.proofs.lists.listing.Given as goal

abbrev pub invariant-parts : goal.invariant-parts
invariant-parts l = Leads l.options (pieces l.options l.options.groups.now l.options.prefix.now l.root) l.options.heading.now (map piece_of l.pending.items) (string_bytes l.out)

abbrev pub decreases-parts : goal.decreases-parts
decreases-parts l = piece_weights (map piece_of l.pending.items)
