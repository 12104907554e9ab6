-- None of the attributes so far has one of the names.
use Rattle.std.proofs.Common.{◌≡◌, map, drop}
use Rattle.just_lang_spots.specs.Items.{has_attribute}
use Rattle.just_lang_spots.proofs.entries.has_attribute.Given as goal

abbrev pub invariant-attributes : goal.invariant-attributes
invariant-attributes l =
    has_attribute (map (λ n. n.now) l.names) (drop l.attribute-index l.attributes) ≡ has_attribute (map (λ n. n.now) l.names) l.attributes
