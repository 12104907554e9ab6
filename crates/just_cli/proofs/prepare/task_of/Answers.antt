-- Each is the task of its reply.
use Rattle.just_cli.proofs.Commanding.{listed_task, planned_task}
use Rattle.just_cli.proofs.prepare.task_of.Goals as goal

pub returns-in-List-clause-asked : goal.returns-in-List-clause-asked
returns-in-List-clause-asked c = listed_task c.args.dry _ _ c.args.quiet c.in-List.is

pub returns-in-Plan-clause-asked : goal.returns-in-Plan-clause-asked
returns-in-Plan-clause-asked c = planned_task c.args.dry _ _ _ _ _ c.task_of_plan.ensures.asked c.in-Plan.is
