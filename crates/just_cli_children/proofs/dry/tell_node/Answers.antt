-- The banner is told, and the body behind it.
use Rattle.just_exec_work.specs.Steps.{commands_of}
use Rattle.just_sched_history.specs.Match.{printed_entries}
use Rattle.just_cli_children.specs.DryRuns.{echoed}
use Rattle.just_cli_children.proofs.DryLaws.{tells_more, tells_less}
use Rattle.just_cli_children.proofs.dry.tell_node.Goals as goal

pub returns-in-Ok : goal.returns-in-Ok
returns-in-Ok g c =
    tells_more (printed_entries c.args.node.now.banner) (echoed (commands_of c.args.node.now.work)) (g.H.Host.told c.args.host.now) (g.H.Host.told c.tell_text.new.host) (g.H.Host.told c.tell_work.new.host) _ (rw c.as_str.ensures at c.in-Ok.ensures) _ c.tell_work.ensures

pub returns-in-Err : goal.returns-in-Err
returns-in-Err g c =
    tells_less (printed_entries c.args.node.now.banner) (echoed (commands_of c.args.node.now.work)) (g.H.Host.told c.args.host.now) (g.H.Host.told c.tell_text.new.host) _ (rw c.as_str.ensures at c.in-Err.ensures)
