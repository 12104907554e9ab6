-- The reply to what is chosen is the task, where something is.
use Rattle.just_cli.proofs.Commanding.{chosen_task, unchosen_task}
use Rattle.just_cli.proofs.prepare.task_of_choice.Goals as goal

pub returns-in-Some-clause-asked : goal.returns-in-Some-clause-asked
returns-in-Some-clause-asked c = chosen_task c.args.dry _ _ _ c.task_of.ensures.asked c.in-Some.is

pub returns-in-None-clause-asked : goal.returns-in-None-clause-asked
returns-in-None-clause-asked c = unchosen_task c.args.dry _ c.args.quiet c.in-None.is
