-- The last piece is the one that is behind what was found, or further on.
use Rattle.std.proofs.Common.{◌≡◌}
use Rattle.std.specs.Str.{IsCharBoundary}
use Rattle.just_exec_work.specs.Cuts.{is_separator, behind_last}
use Rattle.just_exec_work.proofs.LastPieces.{piece_of}
use Rattle.just_exec_work.proofs.cut.last_piece.Given as goal

abbrev pub invariant-bytes : goal.invariant-bytes
invariant-bytes l =
    record {
      piece : piece_of is_separator l.from l.at l.text ≡ behind_last is_separator l.text;
      boundary : IsCharBoundary l.text l.from;
    }
