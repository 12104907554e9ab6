-- Whatever is told of those that are left is told of all.
use Rattle.std.proofs.Common.{drop}
use Rattle.just_cli_children.specs.DryRuns.{told_of}
use Rattle.just_cli_children.proofs.DryLaws.{Leads}
use Rattle.just_cli_children.proofs.dry.tell_plan.Given as goal

abbrev pub invariant-nodes : goal.invariant-nodes
invariant-nodes g l = Leads told_of l.plan.nodes (g.H.Host.told l.fn.host) (g.H.Host.told l.host) (drop l.node-index l.plan.nodes)
