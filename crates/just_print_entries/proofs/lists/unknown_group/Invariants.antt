-- The module has the groups so far.
use Rattle.std.proofs.Common.{◌≡◌, drop}
use Rattle.just_print_entries.specs.Listings.{unknown_group}
use Rattle.just_print_entries.proofs.lists.unknown_group.Given as goal

abbrev pub invariant-given : goal.invariant-given
invariant-given l = unknown_group (drop l.group-index l.given) l.root ≡ unknown_group l.given l.root
