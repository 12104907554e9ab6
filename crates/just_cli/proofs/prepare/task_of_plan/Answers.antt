-- A plan is run, or only told.
use Rattle.just_cli.proofs.Commanding.{dry_task, run_task}
use Rattle.just_cli.proofs.prepare.task_of_plan.Goals as goal

pub returns-then-dry-clause-asked : goal.returns-then-dry-clause-asked
returns-then-dry-clause-asked c = dry_task c.args.dry c.args.plan c.args.jobs _ c.args.quiet c.if-dry.true

pub returns-else-dry-clause-asked : goal.returns-else-dry-clause-asked
returns-else-dry-clause-asked c = run_task c.args.dry c.args.plan c.args.jobs _ c.args.quiet c.if-dry.false
