-- What was found so far, and what is still to come.
use Rattle.std.proofs.Common.{◌≡◌, ◌++◌, drop}
use Rattle.just_print_tree.specs.Groups.{each_once}
use Rattle.just_print_tree.proofs.groups.push_each_new.Given as goal

abbrev pub invariant-texts : goal.invariant-texts
invariant-texts l = l.found.items ++ each_once l.found.items (drop l.text-index l.texts) ≡ l.initial.found.items ++ each_once l.initial.found.items l.texts
