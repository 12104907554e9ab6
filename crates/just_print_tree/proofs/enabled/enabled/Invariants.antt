-- What was kept so far, and what is still to come.
use Rattle.std.proofs.Common.{◌≡◌, ◌++◌, drop}
use Rattle.just_print_tree.specs.Kept.{tolds}
use Rattle.just_print_tree.specs.Told.{enabled}
use Rattle.just_print_tree.proofs.enabled.enabled.Given as goal

abbrev pub invariant-recipes : goal.invariant-recipes
invariant-recipes l = tolds l.kept.items ++ enabled l.justfile (tolds (drop l.one-index l.recipes)) ≡ enabled l.justfile (tolds l.recipes)
