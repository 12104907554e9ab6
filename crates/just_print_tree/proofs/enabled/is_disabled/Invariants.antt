-- None of those so far has that name.
use Rattle.std.proofs.Common.{◌≡◌, drop}
use Rattle.just_print_tree.specs.Told.{is_disabled}
use Rattle.just_print_tree.proofs.enabled.is_disabled.Given as goal

abbrev pub invariant-disabled : goal.invariant-disabled
invariant-disabled l = is_disabled (drop l.one-index l.disabled) l.name ≡ is_disabled l.disabled l.name
