-- The files so far have their sums.
use Rattle.std.proofs.Common.{◌≡◌, ◌≤◌, length}
use Rattle.std.specs.Prelude.{vec_capacity}
use Rattle.just_sched_book.proofs.Summing.{AreSummedSo}
use Rattle.just_sched_book.proofs.cached.sum_all.Given as goal

abbrev pub invariant-paths : goal.invariant-paths
invariant-paths g l = record {
  summed : AreSummedSo l.paths l.at l.sums.items (g.H.Host.told l.fn.host).entries (g.H.Host.told l.host).entries;
  room : length l.paths ≤ vec_capacity l.sums;
  world : (g.H.Host.told l.host).world ≡ (g.H.Host.told l.fn.host).world;
  spare : g.H.Host.spare l.host ≡ g.H.Host.spare l.fn.host;
}
