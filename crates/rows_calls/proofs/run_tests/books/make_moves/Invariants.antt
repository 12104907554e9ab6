-- The seat is as it was between two moves.
use Rattle.std.proofs.Common.{◌≡◌}
use Rattle.rows_calls.proofs.run_tests.books.make_moves.Given as goal

abbrev pub invariant-moves : goal.invariant-moves
invariant-moves g l = record {
  parts : l.seat.share.parts ≡ l.initial.seat.share.parts;
  units : l.seat.share.amount ≡ l.initial.seat.share.amount;
}
