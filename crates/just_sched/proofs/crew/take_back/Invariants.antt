-- The owner has the parts of the seats that were taken back.
use Rattle.std.proofs.Common.{◌≡◌, ◌+◌, All, vec_len}
use Rattle.just_sched.proofs.crew.take_back.Given as goal

abbrev pub invariant-seats : goal.invariant-seats
invariant-seats g l = record {
  parts : l.owner.share.parts + vec_len l.seats ≡ l.initial.owner.share.parts + vec_len l.fn.seats;
  units : l.owner.share.amount ≡ l.initial.owner.share.amount;
  each : All (λ s. (s.share.parts ≡ 1) × (s.share.amount ≡ 0)) l.seats.items;
}

abbrev pub decreases-seats : goal.decreases-seats
decreases-seats g l = vec_len l.seats
