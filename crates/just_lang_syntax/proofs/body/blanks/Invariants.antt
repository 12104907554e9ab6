-- What is left of the run follows what was taken.
use Rattle.std.proofs.Common.{◌≡◌, ◌++◌, length}
use Rattle.just_lang_read.specs.Place.{run}
use Rattle.just_lang_read.specs.Characters.{is_blank}
use Rattle.just_lang_syntax.proofs.body.blanks.Given as goal

abbrev pub invariant-blanks : goal.invariant-blanks
invariant-blanks l = l.found.items ++ run is_blank l.ahead.rest ≡ run is_blank l.initial.ahead.rest

abbrev pub decreases-blanks : goal.decreases-blanks
decreases-blanks l = length l.ahead.rest
