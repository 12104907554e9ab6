-- The blanks go on behind the letters so far.
use Rattle.std.proofs.Common.{◌≡◌, ◌+◌, drop, length}
use Rattle.just_lang_read.specs.Place.{run}
use Rattle.just_lang_read.specs.Characters.{is_blank}
use Rattle.just_lang_read.proofs.indentation.count_blanks.Given as goal

abbrev pub invariant-letters : goal.invariant-letters
invariant-letters l = l.at + length (run is_blank (drop l.at l.line)) ≡ length (run is_blank l.line)
