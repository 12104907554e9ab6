-- What is left says the same, and gets shorter.
use Rattle.std.proofs.Common.{◌≡◌, length}
use denote.Shadow.{shadow}
use denote.Text.{Utf8}
use Rattle.just_lang_shapes.specs.Comments.{without_blanks}
use Rattle.just_lang_shapes.proofs.comments.without_blanks.Given as goal

abbrev pub invariant-blanks : goal.invariant-blanks
invariant-blanks l = record { utf8 : shadow (Utf8 l.rest); same : without_blanks l.rest ≡ without_blanks l.text }

abbrev pub decreases-blanks : goal.decreases-blanks
decreases-blanks l = length l.rest
