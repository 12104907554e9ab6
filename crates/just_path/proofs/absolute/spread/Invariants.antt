-- What is left of the text, put on the path so far, gives what the whole text gives.
use Rattle.std.proofs.Common.{◌≡◌, length}
use denote.Text.{Utf8}
use denote.Shadow.{shadow}
use Rattle.just_path.specs.Absolute.{spread}
use Rattle.just_path.proofs.absolute.spread.Given as goal

abbrev pub invariant-names : goal.invariant-names
invariant-names l = record { utf8 : shadow (Utf8 l.left); keeps : spread l.path l.left ≡ spread l.initial.path l.text }

abbrev pub decreases-names : goal.decreases-names
decreases-names l = length l.left
