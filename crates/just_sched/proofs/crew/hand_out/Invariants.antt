-- So many parts were given as there are seats, each a worker's.
use Rattle.std.proofs.Common.{◌≡◌, ◌+◌, ◌-◌, ◌≤◌, All, vec_len, vec_capacity}
use Rattle.just_sched.proofs.crew.hand_out.Given as goal

abbrev pub invariant-seats : goal.invariant-seats
invariant-seats g l = record {
  parts : l.owner.share.parts + vec_len l.seats ≡ l.initial.owner.share.parts;
  units : l.owner.share.amount ≡ l.initial.owner.share.amount;
  each : All (λ s. (s.share.parts ≡ 1) × (s.share.amount ≡ 0)) l.seats.items;
  few : vec_len l.seats ≤ l.fn.count;
  room : l.fn.count ≤ vec_capacity l.seats;
}

abbrev pub decreases-seats : goal.decreases-seats
decreases-seats g l = l.fn.count - vec_len l.seats
