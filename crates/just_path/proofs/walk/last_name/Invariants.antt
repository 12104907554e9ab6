-- What is left of the text gives the same.
use Rattle.std.proofs.Common.{length}
use denote.Text.{Utf8}
use denote.Shadow.{shadow}
use Rattle.just_path.proofs.Walks.{KeepsLast}
use Rattle.just_path.proofs.walk.last_name.Given as goal

abbrev pub invariant-loop-left : goal.invariant-loop-left
invariant-loop-left l = record { utf8 : shadow (Utf8 l.left); keeps : KeepsLast l.text l.left }

abbrev pub decreases-loop-left : goal.decreases-loop-left
decreases-loop-left l = length l.left
