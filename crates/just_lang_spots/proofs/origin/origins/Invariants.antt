-- The nodes so far have their origins.
use Rattle.std.proofs.Common.{◌≡◌, length}
use Rattle.just_lang_spots.proofs.Settled.{AreSettled}
use Rattle.just_lang_spots.proofs.origin.origins.Given as goal

abbrev pub invariant-loop-node : goal.invariant-loop-node
invariant-loop-node l = record {
  size : length l.origins.items ≡ length l.edges;
  settled : AreSettled l.edges l.own l.origins.items l.order l.node-index;
}
