-- The modules so far and those of the stack are all; each turn makes one.
use Rattle.std.proofs.Common.{◌≡◌, ◌++◌, length}
use Rattle.just_lang_layout.specs.Modules.{modules_of}
use Rattle.just_lang_layout.specs.Pending.{modules_left}
use Rattle.just_lang_layout.proofs.pending.modules_of.Given as goal

abbrev pub invariant-modules : goal.invariant-modules
invariant-modules l = l.modules.items ++ modules_left l.files l.table l.stack.items ≡ modules_of l.files l.table

abbrev pub decreases-modules : goal.decreases-modules
decreases-modules l = length (modules_left l.files l.table l.stack.items)
