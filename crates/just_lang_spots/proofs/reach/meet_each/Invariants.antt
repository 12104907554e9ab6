-- The nodes so far and those to come leave what all leave.
use Rattle.std.proofs.Common.{◌≡◌, drop, length}
use Rattle.just_lang_spots.specs.Met.{met_after, list_after}
use Rattle.just_lang_spots.proofs.reach.meet_each.Given as goal

abbrev pub invariant-loop-node : goal.invariant-loop-node
invariant-loop-node l = record {
  size : length l.marks.items ≡ length l.fn.marks.items;
  marks : met_after l.marks.items (drop l.node-index l.nodes) ≡ met_after l.fn.marks.items l.nodes;
  list : list_after l.marks.items l.list.items (drop l.node-index l.nodes) ≡ list_after l.fn.marks.items l.fn.list.items l.nodes;
}
