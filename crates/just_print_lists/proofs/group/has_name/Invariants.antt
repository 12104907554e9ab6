-- None of the names so far is that name.
use Rattle.std.proofs.Common.{◌≡◌, drop}
use Rattle.just_print_lists.specs.Groups.{has_name}
use Rattle.just_print_lists.proofs.group.has_name.Given as goal

abbrev pub invariant-names : goal.invariant-names
invariant-names l = has_name l.name (drop l.other-index l.names) ≡ has_name l.name l.names
