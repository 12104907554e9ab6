-- The line goes on behind the letters so far.
use Rattle.std.proofs.Common.{◌≡◌, ◌+◌, drop}
use Rattle.just_lang_read.specs.Indentation.{first_length}
use Rattle.just_lang_read.proofs.indentation.line_length.Given as goal

abbrev pub invariant-letters : goal.invariant-letters
invariant-letters l = l.at + first_length (drop l.at l.text) ≡ first_length l.text
