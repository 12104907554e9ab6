-- What is left follows what was added.
use Rattle.std.proofs.Common.{◌≡◌, ◌++◌, drop}
use Rattle.just_lang_read.proofs.indentation.push_all.Given as goal

abbrev pub invariant-characters : goal.invariant-characters
invariant-characters l = l.found.items ++ drop l.c-index l.characters ≡ l.initial.found.items ++ l.characters
