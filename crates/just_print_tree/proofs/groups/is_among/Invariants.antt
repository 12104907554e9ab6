-- None of the places so far is that one.
use Rattle.std.proofs.Common.{◌≡◌, drop}
use Rattle.std.specs.List.{list_any}
use Rattle.just_print_tree.specs.Groups.{is_spot}
use Rattle.just_print_tree.proofs.groups.is_among.Given as goal

abbrev pub invariant-spots : goal.invariant-spots
invariant-spots l = list_any (is_spot l.spot) (drop l.other-index l.spots) ≡ list_any (is_spot l.spot) l.spots
