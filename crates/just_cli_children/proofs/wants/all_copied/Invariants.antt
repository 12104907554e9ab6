-- The copies so far are those of the overrides so far.
use Rattle.std.proofs.Common.{◌≡◌, take}
use Rattle.just_cli_children.proofs.wants.all_copied.Given as goal

abbrev pub invariant-loop-given : goal.invariant-loop-given
invariant-loop-given l = l.copies.items ≡ take l.given-index l.overrides
