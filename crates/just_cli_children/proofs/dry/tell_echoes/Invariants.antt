-- Whatever is told of those that are left is told of all.
use Rattle.std.proofs.Common.{drop}
use Rattle.just_exec_work.specs.declared.work.Command.{Command}
use Rattle.just_sched_history.specs.Match.{printed_entries}
use Rattle.just_cli_children.proofs.DryLaws.{Leads}
use Rattle.just_cli_children.proofs.dry.tell_echoes.Given as goal

abbrev pub invariant-commands : goal.invariant-commands
invariant-commands g l = Leads (λ (k : Command). printed_entries k.echo) l.commands (g.H.Host.told l.fn.host) (g.H.Host.told l.host) (drop l.command-index l.commands)
