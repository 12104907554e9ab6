-- A part is written, or its own parts are pending.
use Rattle.std.proofs.Common.{rules, ◌≡◌, ◌++◌, [], ◌∷◌, List, map, string_bytes, ap, ◌∙◌}
use Rattle.std.proofs.lemmas.List.{map-append}
use Rattle.just_print_entries.specs.declared.part.Part.{Part}
use Rattle.just_print_entries.specs.Listings.{pieces}
use Rattle.just_print_entries.specs.Written.{piece_of}
use Rattle.just_print_entries.proofs.Writing.{one_written}
use Rattle.just_print_entries.proofs.PieceWeights.{fewer_pieces}
use Rattle.just_print_entries.proofs.lists.listing.Goals as goal

pub parts-smaller : goal.parts-smaller
parts-smaller c =
    let popped : c.parts.pending.items ≡ c.pop.new.self.items ++ c.in-Some.part ∷ [] = search rules in
    let is : map piece_of c.parts.pending.items ≡ map piece_of c.pop.new.self.items ++ piece_of c.in-Some.part ∷ [] = ap (λ (l : List Part). map piece_of l) popped ∙ map-append piece_of c.pop.new.self.items (c.in-Some.part ∷ []) in
    fewer_pieces c.args.options.now (map piece_of c.parts.pending.items) (map piece_of c.pop.new.self.items) (map piece_of c.write_part.new.pending.items) (piece_of c.in-Some.part) is c.in_ok-write_part.ensures.parts

pub parts-preserved : goal.parts-preserved
parts-preserved c =
    let popped : c.parts.pending.items ≡ c.pop.new.self.items ++ c.in-Some.part ∷ [] = search rules in
    let is : map piece_of c.parts.pending.items ≡ map piece_of c.pop.new.self.items ++ piece_of c.in-Some.part ∷ [] = ap (λ (l : List Part). map piece_of l) popped ∙ map-append piece_of c.pop.new.self.items (c.in-Some.part ∷ []) in
    let o = c.args.options.now in
    one_written o (pieces o o.groups.now o.prefix.now c.args.root.now) o.heading.now (map piece_of c.parts.pending.items) (map piece_of c.pop.new.self.items) (map piece_of c.write_part.new.pending.items) (piece_of c.in-Some.part)
    (string_bytes c.parts.out) (string_bytes c.write_part.new.out) is c.in_ok-write_part.ensures.parts c.in_ok-write_part.ensures.text c.parts.invariant
