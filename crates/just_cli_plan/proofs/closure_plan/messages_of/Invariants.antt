-- The messages of the nodes to come follow those so far.
use Rattle.std.proofs.Common.{◌≡◌, ◌++◌, drop, map}
use Rattle.just_cli_plan.specs.Planned.{messages_of}
use Rattle.just_cli_plan.proofs.closure_plan.messages_of.Given as goal

abbrev pub invariant-nodes : goal.invariant-nodes
invariant-nodes l = l.messages.items ++ messages_of (map (λ m. m.now) l.request.modules.items) (drop l.node-index l.nodes) ≡ messages_of (map (λ m. m.now) l.request.modules.items) l.nodes
