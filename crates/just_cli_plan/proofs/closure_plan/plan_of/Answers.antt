-- Each node has its plan.
use Rattle.std.proofs.Common.{◌^◌, map}
use Rattle.just_cli_plan.specs.Planned.{node_planned}
use Rattle.just_cli_plan.proofs.PlanNodes.{planned_nodes, well_planned, few_planned}
use Rattle.just_cli_plan.proofs.closure_plan.plan_of.Goals as goal

pub invariant_of-result-clause-well : goal.invariant_of-result-clause-well
invariant_of-result-clause-well c = well_planned c.args.closure.nodes c.args.closure.invocations c.in-Ok.nodes c.in-Ok.ensures.nodes.0 c.requires.formed

pub invariant_of-result-clause-few : goal.invariant_of-result-clause-few
invariant_of-result-clause-few c = few_planned c.args.closure.nodes c.in-Ok.nodes (2 ^ 32) c.in-Ok.ensures.nodes.0 c.requires.few

pub invariant_of-result-clause-short : goal.invariant_of-result-clause-short
invariant_of-result-clause-short c = ∣ c.in-Ok.ensures.short ∣₁

pub returns-clause-nodes : goal.returns-clause-nodes
returns-clause-nodes c = (map node_planned c.in-Ok.nodes, c.in-Ok.ensures.nodes.1, planned_nodes c.args.closure.nodes c.in-Ok.nodes c.in-Ok.ensures.nodes.0)
