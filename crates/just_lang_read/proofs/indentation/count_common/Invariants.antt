-- What is shared goes on behind the letters so far.
use Rattle.std.proofs.Common.{◌≡◌, ◌+◌, drop, length}
use Rattle.just_lang_read.specs.Indentation.{common}
use Rattle.just_lang_read.proofs.indentation.count_common.Given as goal

abbrev pub invariant-letters : goal.invariant-letters
invariant-letters l = l.at + length (common (drop l.at l.one) (drop l.at l.other)) ≡ length (common l.one l.other)
