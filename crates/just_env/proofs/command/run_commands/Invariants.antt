-- Children were run for the commands so far.
use Rattle.std.proofs.Common.{drop}
use Rattle.just_path.specs.Path.{text_of}
use Rattle.just_env.proofs.Commanding.{RanOn}
use Rattle.just_env.proofs.command.run_commands.Given as goal

abbrev pub invariant-commands : goal.invariant-commands
invariant-commands g l = record {
  ran : RanOn l.environ.pairs l.shell (text_of l.folder) (g.H.Host.told l.fn.host) l.commands (g.H.Host.told l.host) (drop l.command-index l.commands) l.pairs;
}
