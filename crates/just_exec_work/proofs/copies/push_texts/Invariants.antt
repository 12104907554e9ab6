-- What is left follows what was added.
use Rattle.std.proofs.Common.{◌≡◌, ◌++◌, drop}
use Rattle.just_exec_work.proofs.copies.push_texts.Given as goal

abbrev pub invariant-texts : goal.invariant-texts
invariant-texts l = l.all.items ++ drop l.text-index l.texts ≡ l.initial.all.items ++ l.texts
