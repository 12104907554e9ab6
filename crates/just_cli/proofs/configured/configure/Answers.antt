-- The arguments give the configuration; or they are refused.
use Rattle.just_cli.proofs.Refusals.{arguments_refused, each_given}
use Rattle.just_cli.proofs.configured.configure.Goals as goal

pub returns-in-Ok-clause-config : goal.returns-in-Ok-clause-config
returns-in-Ok-clause-config c = each_given c.args.arguments c.args.folder c.in-Ok.config c.in-Ok.ensures.config

pub returns-in-Err-clause-refused : goal.returns-in-Err-clause-refused
returns-in-Err-clause-refused c = arguments_refused c.args.arguments c.args.folder _ _ c.in-Err.ensures.refused c.from.ensures
