-- The lines to come add to what was shared.
use Rattle.std.proofs.Common.{◌≡◌, length}
use Rattle.std.specs.Option.{option_copied}
use Rattle.just_lang_read.specs.Indentation.{shared_from, lines_of}
use Rattle.just_lang_read.proofs.indentation.shared.Given as goal

abbrev pub invariant-lines : goal.invariant-lines
invariant-lines l = shared_from (option_copied l.shared) (lines_of l.rest) ≡ shared_from (option_copied l.initial.shared) (lines_of l.initial.rest)

abbrev pub decreases-lines : goal.decreases-lines
decreases-lines l = length l.rest
