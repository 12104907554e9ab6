-- The nodes so far have the numbers of their classes.
use Rattle.just_sched_history.proofs.ClassLaws.{AreNumbered}
use Rattle.just_sched_history.proofs.classes.class_numbers.Given as goal

abbrev pub invariant-nodes : goal.invariant-nodes
invariant-nodes l = AreNumbered l.plan.nodes l.at l.classes.items l.numbers
