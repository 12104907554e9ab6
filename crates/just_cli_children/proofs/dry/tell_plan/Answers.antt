-- One more is told, or isn't; and all are.
use Rattle.std.proofs.Common.{◌≤◌, length, arith}
use Rattle.just_cli_children.specs.DryRuns.{told_of}
use Rattle.just_cli_children.proofs.DryLaws.{leads_first, leads_next, leads_lost, leads_last}
use Rattle.just_cli_children.proofs.dry.tell_plan.Goals as goal

pub nodes-init : goal.nodes-init
nodes-init g c = leads_first told_of c.args.plan.now.nodes (g.H.Host.told c.args.host.now)

pub nodes-preserved : goal.nodes-preserved
nodes-preserved g c =
    leads_next told_of c.args.plan.now.nodes (g.H.Host.told c.args.host.now) (g.H.Host.told c.nodes.host) (g.H.Host.told c.tell_node.new.host) c.nodes.node-index c.node-item.result (rw c.as_slice-node-items.ensures at c.nodes-test.true) (rw c.as_slice-node-items.ensures at c.node-item.is) c.nodes.invariant _ c.in-Ok.ensures

pub returns-in-Err : goal.returns-in-Err
returns-in-Err g c =
    leads_lost told_of c.args.plan.now.nodes (g.H.Host.told c.args.host.now) (g.H.Host.told c.nodes.host) (g.H.Host.told c.tell_node.new.host) c.nodes.node-index c.node-item.result (rw c.as_slice-node-items.ensures at c.nodes-test.true) (rw c.as_slice-node-items.ensures at c.node-item.is) c.nodes.invariant _ c.in-Err.ensures

pub returns : goal.returns
returns g c =
    let last : length c.args.plan.now.nodes ≤ c.nodes.node-index = let h = rw c.as_slice-node-items.ensures at c.nodes-test.false in omega (arith, h) in
    leads_last told_of c.args.plan.now.nodes (g.H.Host.told c.args.host.now) (g.H.Host.told c.nodes.host) c.nodes.node-index last c.nodes.invariant
