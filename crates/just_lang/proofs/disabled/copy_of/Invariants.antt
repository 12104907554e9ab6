-- The texts so far.
use Rattle.std.proofs.Common.{◌≡◌, take}
use Rattle.just_lang.proofs.disabled.copy_of.Given as goal

abbrev pub invariant-list : goal.invariant-list
invariant-list l = l.copy.items ≡ take l.one-index l.list
