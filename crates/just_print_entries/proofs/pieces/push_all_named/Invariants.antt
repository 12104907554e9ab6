-- What is left follows what was added.
use Rattle.std.proofs.Common.{◌≡◌, ◌++◌, drop, map}
use Rattle.just_print_entries.specs.Listings.{named_pieces}
use Rattle.just_print_entries.specs.Written.{piece_of}
use Rattle.just_print_entries.proofs.pieces.push_all_named.Given as goal

abbrev pub invariant-groups : goal.invariant-groups
invariant-groups l =
    map piece_of l.parts.items ++ named_pieces l.options l.frame.indent.now l.frame.columns l.frame.has_named (map (λ r. r.now) l.recipes) (map (λ m. m.now) l.modules) l.behind (map (λ g. g.now) (drop l.group-index l.groups))
    ≡ map piece_of l.initial.parts.items ++ named_pieces l.options l.frame.indent.now l.frame.columns l.frame.has_named (map (λ r. r.now) l.recipes) (map (λ m. m.now) l.modules) l.is_later (map (λ g. g.now) l.groups)
