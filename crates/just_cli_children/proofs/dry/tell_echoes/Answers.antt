-- One more is told, or isn't; and all are.
use Rattle.std.proofs.Common.{◌≤◌, length, arith}
use Rattle.just_exec_work.specs.declared.work.Command.{Command}
use Rattle.just_sched_history.specs.Match.{printed_entries}
use Rattle.just_cli_children.proofs.DryLaws.{leads_first, leads_next, leads_lost, leads_last}
use Rattle.just_cli_children.proofs.dry.tell_echoes.Goals as goal

pub commands-init : goal.commands-init
commands-init g c = leads_first (λ (k : Command). printed_entries k.echo) c.args.commands.now (g.H.Host.told c.args.host.now)

pub commands-preserved : goal.commands-preserved
commands-preserved g c =
    leads_next (λ (k : Command). printed_entries k.echo) c.args.commands.now (g.H.Host.told c.args.host.now) (g.H.Host.told c.commands.host) (g.H.Host.told c.tell_text.new.host) c.commands.command-index c.command-item.result c.commands-test.true c.command-item.is c.commands.invariant _ (rw c.as_str.ensures at c.in-Ok.ensures)

pub returns-in-Err : goal.returns-in-Err
returns-in-Err g c =
    leads_lost (λ (k : Command). printed_entries k.echo) c.args.commands.now (g.H.Host.told c.args.host.now) (g.H.Host.told c.commands.host) (g.H.Host.told c.tell_text.new.host) c.commands.command-index c.command-item.result c.commands-test.true c.command-item.is c.commands.invariant _ (rw c.as_str.ensures at c.in-Err.ensures)

pub returns : goal.returns
returns g c =
    let last : length c.args.commands.now ≤ c.commands.command-index = let h = c.commands-test.false in omega (arith, h) in
    leads_last (λ (k : Command). printed_entries k.echo) c.args.commands.now (g.H.Host.told c.args.host.now) (g.H.Host.told c.commands.host) c.commands.command-index last c.commands.invariant
