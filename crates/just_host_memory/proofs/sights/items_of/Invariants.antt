-- The items so far are those of the things from here on.
use Rattle.std.proofs.Common.{◌≤◌, length, drop, map}
use Rattle.just_path.specs.View.{AreInOrder}
use Rattle.just_host_memory.specs.Files.{by_text}
use Rattle.just_host_files.specs.Items.{AreItemsBehind}
use Rattle.just_host_memory.proofs.sights.items_of.Given as goal

abbrev pub invariant-loop-i : goal.invariant-loop-i
invariant-loop-i l = record {
  inside : l.i ≤ length l.things;
  order : AreInOrder l.items.items;
  items : AreItemsBehind l.front (drop l.i (map by_text l.things)) l.items.items;
}
