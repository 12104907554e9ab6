-- No node before the first that is left is to be asked.
use Rattle.just_sched_history.proofs.Asking.{left_not_asked}
use Rattle.just_sched_history.proofs.choice.first_asked_by.Goals as goal

pub loop-next-init : goal.loop-next-init
loop-next-init c = left_not_asked c.args.plan.now.nodes c.args.plan.now.invocations c.args.history.now c.args.left c.requires.left c.requires.took
