-- The nodes that are left, and those so far.
use Rattle.std.proofs.Common.{◌≡◌, ◌<◌, ◌^◌, ◌++◌, length, map, reverse}
use Rattle.std.specs.Prelude.{All}
use Rattle.just_path.specs.Path.{text_of}
use Rattle.just_exec_work.specs.Steps.{commands_of}
use Rattle.just_exec.specs.Plans.{each_plan}
use Rattle.just_cli_plan.specs.Planned.{node_planned, plan_for}
use Rattle.just_cli_plan.proofs.PlanNodes.{behind}
use Rattle.just_cli_plan.proofs.closure_plan.plan_nodes.Given as goal

abbrev pub invariant-nodes : goal.invariant-nodes
invariant-nodes l = record {
  nodes : map (λ x. x.node) l.made.items ++ reverse l.left.items ≡ reverse l.initial.left.items;
  plans :
      behind (map node_planned l.made.items) (each_plan (plan_for l.flags (text_of l.folder) (map (λ m. m.now) l.request.modules.items) l.request.scopes.now) (reverse l.left.items))
      ≡ each_plan (plan_for l.flags (text_of l.folder) (map (λ m. m.now) l.request.modules.items) l.request.scopes.now) (reverse l.initial.left.items);
  short : All (λ x. length (commands_of x.work) < 2 ^ 32) l.made.items;
}

abbrev pub decreases-nodes : goal.decreases-nodes
decreases-nodes l = length l.left.items
