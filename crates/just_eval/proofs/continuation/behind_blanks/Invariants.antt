-- All so far are blanks.
use Rattle.std.proofs.Common.{◌≡◌, drop}
use Rattle.std.specs.Str.{IsCharBoundary}
use Rattle.just_eval.specs.Bodies.{behind_blanks}
use Rattle.just_eval.proofs.continuation.behind_blanks.Given as goal

abbrev pub invariant-bytes : goal.invariant-bytes
invariant-bytes l =
    record {
      same : behind_blanks (drop l.at l.text) ≡ behind_blanks l.text;
      boundary : IsCharBoundary l.text l.at;
    }
