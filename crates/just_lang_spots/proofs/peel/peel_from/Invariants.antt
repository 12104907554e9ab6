-- What is on the stack are nodes; each turn looks at one more target or takes a node off the stack.
use Rattle.std.proofs.Common.{◌≡◌, ◌+◌, ◌*◌, ◌<◌, length}
use Rattle.std.specs.List.{All}
use Rattle.just_lang_spots.specs.Met.{ArePeeled, steps_left}
use Rattle.just_lang_spots.proofs.peel.peel_from.Given as goal

abbrev pub invariant-loop-node : goal.invariant-loop-node
invariant-loop-node l = record {
  stack : All (λ v. v < length l.edges) l.stack.items;
  size : length l.seen.items ≡ length l.edges;
  peeled : ArePeeled l.edges l.peeled.marks.items l.peeled.order.items;
}

abbrev pub decreases-loop-node : goal.decreases-loop-node
decreases-loop-node l = 2 * steps_left l.edges l.seen.items + length l.stack.items
