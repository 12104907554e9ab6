-- The digits so far and those to come are all of them.
use Rattle.std.proofs.Common.{length}
use Rattle.just_lang_read.proofs.Digits.{Counts}
use Rattle.just_lang_read.proofs.escape.number.Given as goal

abbrev pub invariant-digits : goal.invariant-digits
invariant-digits l = Counts l.initial.cursor l.cursor l.number l.count

abbrev pub decreases-digits : goal.decreases-digits
decreases-digits l = length l.cursor.rest
