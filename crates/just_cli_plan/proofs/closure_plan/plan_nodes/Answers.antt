-- A node more.
use Rattle.std.proofs.Common.{rules, ◌≡◌, ◌^◌, ◌<◌, length, map, ◌++◌, [], ◌∷◌, ◌∙◌}
use Rattle.just_path.specs.Path.{text_of}
use Rattle.just_exec_work.specs.Steps.{commands_of}
use Rattle.just_sched_history.specs.declared.plan_node.PlanNode.{PlanNode}
use Rattle.just_cli_plan.specs.Planned.{plan_for}
use Rattle.just_cli_plan.proofs.PlanNodes.{made_more, node_more, all_pushed}
use Rattle.just_cli_plan.proofs.closure_plan.plan_nodes.Goals as goal

pub nodes-preserved : goal.nodes-preserved
nodes-preserved c =
    let f = plan_for c.args.flags.now (text_of c.args.folder) (map (λ m. m.now) c.args.request.now.modules.items) c.args.request.now.scopes.now in
    let left = c.nodes.left.items in
    let made = c.nodes.made.items in
    let ns = c.pop.new.self.items in
    let n = c.in-Some.node in
    let x = c.in-Ok-planned_node.planned in
    let was : left ≡ ns ++ n ∷ [] = search rules in
    let grew : c.push.new.self.items ≡ made ++ x ∷ [] = search rules in
    record {
      nodes = node_more ns left n was made c.push.new.self.items x grew c.in-Ok-planned_node.ensures.planned.0 ∙ c.nodes.invariant.nodes;
      plans = made_more f ns left n was made c.push.new.self.items x grew c.in-Ok-planned_node.ensures.planned.1 ∙ c.nodes.invariant.plans;
      short = all_pushed (λ (y : PlanNode). length (commands_of y.work) < 2 ^ 32) made c.push.new.self.items x grew c.nodes.invariant.short c.in-Ok-planned_node.ensures.short;
    }
