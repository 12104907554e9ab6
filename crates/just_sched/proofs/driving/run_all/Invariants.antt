-- The seat has every part and no unit between two moves.
use Rattle.std.proofs.Common.{◌≡◌}
use Rattle.just_sched.proofs.driving.run_all.Given as goal

abbrev pub invariant-moves : goal.invariant-moves
invariant-moves g l = record {
  units : l.seat.share.amount ≡ 0;
  parts : l.seat.share.parts ≡ g.P.Ledger.parts;
}
