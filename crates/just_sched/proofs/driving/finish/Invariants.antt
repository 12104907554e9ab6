-- The body's seat has its unit.
use Rattle.std.proofs.Common.{◌≡◌}
use Rattle.just_sched.proofs.driving.finish.Given as goal

abbrev pub invariant-turns : goal.invariant-turns
invariant-turns g l = record {
  units : l.seat.share.amount ≡ 1;
  parts : l.seat.share.parts ≡ l.initial.seat.share.parts;
}
