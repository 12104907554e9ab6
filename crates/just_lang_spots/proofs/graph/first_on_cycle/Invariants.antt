-- The first of the nodes to come is the first of all.
use Rattle.std.proofs.Common.{ℕ, Option, drop}
use Rattle.just_lang_spots.specs.Graph.{IsFirst, IsOnCycle}
use Rattle.just_lang_spots.proofs.graph.first_on_cycle.Given as goal

abbrev pub invariant-loop-node : goal.invariant-loop-node
invariant-loop-node l = (o : Option ℕ) → IsFirst (IsOnCycle l.edges) (drop l.node-index l.nodes) o → IsFirst (IsOnCycle l.edges) l.nodes o
