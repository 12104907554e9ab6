-- All bytes so far are blanks.
use Rattle.std.proofs.Common.{◌≡◌, drop}
use Rattle.just_lang_rulebook.specs.Front.{drop_blanks}
use Rattle.just_lang_rulebook.proofs.line_front.drop_blanks.Given as goal

abbrev pub invariant-bytes : goal.invariant-bytes
invariant-bytes l = drop_blanks (drop l.at l.bytes) ≡ drop_blanks l.bytes
