-- Between two moves the seat has no unit.
use Rattle.std.proofs.Common.{◌≡◌}
use Rattle.just_sched.proofs.worker.work.Given as goal

abbrev pub invariant-moves : goal.invariant-moves
invariant-moves g l = record {
  units : l.seat.share.amount ≡ 0;
  parts : l.seat.share.parts ≡ l.initial.seat.share.parts;
}
