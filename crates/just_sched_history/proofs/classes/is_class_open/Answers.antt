-- A class is flagged exactly where some body of it is open.
use Rattle.just_sched_history.proofs.ClassLaws.{flag_opens}
use Rattle.just_sched_history.proofs.classes.is_class_open.Goals as goal

pub returns : goal.returns
returns c = flag_opens c.args.plan.now.nodes c.args.history.now c.args.classes.now c.args.opened.now c.requires.classes c.requires.opened c.args.at c.requires.within c.requires.closed
