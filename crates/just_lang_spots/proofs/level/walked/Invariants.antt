-- The walk's lists have an entry for each node.
use Rattle.std.proofs.Common.{length}
use Rattle.just_lang_spots.specs.Walk.{IsWalk}
use Rattle.just_lang_spots.proofs.level.walked.Given as goal

abbrev pub invariant-loop-node : goal.invariant-loop-node
invariant-loop-node l = IsWalk (length l.edges) l.walk
