-- What is on the stack are nodes; each turn looks at one more target or takes a node off the stack.
use Rattle.std.proofs.Common.{◌+◌, ◌*◌, ◌<◌, length}
use Rattle.std.specs.List.{All}
use Rattle.just_lang_spots.specs.Met.{steps_left}
use Rattle.just_lang_spots.specs.Walk.{IsWalk}
use Rattle.just_lang_spots.proofs.level.walk_from.Given as goal

abbrev pub invariant-loop-node : goal.invariant-loop-node
invariant-loop-node l = record {
  stack : All (λ v. v < length l.edges) l.stack.items;
  walk : IsWalk (length l.edges) l.walk;
}

abbrev pub decreases-loop-node : goal.decreases-loop-node
decreases-loop-node l = 2 * steps_left l.edges l.walk.seen.items + length l.stack.items
