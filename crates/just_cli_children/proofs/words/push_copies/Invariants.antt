-- What is left follows what was added.
use Rattle.std.proofs.Common.{◌≡◌, ◌++◌, drop}
use Rattle.just_cli_children.proofs.words.push_copies.Given as goal

abbrev pub invariant-texts : goal.invariant-texts
invariant-texts l = l.texts.items ++ drop l.text-index l.copied ≡ l.initial.texts.items ++ l.copied
