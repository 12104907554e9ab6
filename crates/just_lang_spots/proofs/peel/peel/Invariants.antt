-- What was taken out stands behind its targets; there are nodes left for each further one.
use Rattle.std.proofs.Common.{◌≡◌, ◌-◌, length}
use Rattle.just_lang_spots.specs.Met.{ArePeeled}
use Rattle.just_lang_spots.proofs.peel.peel.Given as goal

abbrev pub invariant-loop-node : goal.invariant-loop-node
invariant-loop-node l = record {
  size : length l.seen.items ≡ length l.edges;
  peeled : ArePeeled l.edges l.peeled.marks.items l.peeled.order.items;
}

abbrev pub invariant-loop-node-2 : goal.invariant-loop-node-2
invariant-loop-node-2 l = ArePeeled l.edges l.peeled.marks.items l.peeled.order.items

abbrev pub decreases-loop-node-2 : goal.decreases-loop-node-2
decreases-loop-node-2 l = length l.edges - length l.peeled.order.items
