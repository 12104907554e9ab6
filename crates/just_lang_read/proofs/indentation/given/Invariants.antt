-- What the lines to come give follows what was found.
use Rattle.std.proofs.Common.{◌≡◌, ◌++◌, length}
use Rattle.just_lang_read.specs.Indentation.{given, lines_of}
use Rattle.just_lang_read.proofs.indentation.given.Given as goal

abbrev pub invariant-lines : goal.invariant-lines
invariant-lines l = l.found.items ++ given l.count l.is_first (lines_of l.rest) ≡ given l.count l.initial.is_first (lines_of l.initial.rest)

abbrev pub decreases-lines : goal.decreases-lines
decreases-lines l = length l.rest
