-- A class that has a number keeps it; another gets the next.
use Rattle.std.proofs.Common.{sym, ◌∙◌}
use Rattle.just_sched_history.proofs.ClassLaws.{number_again, number_new}
use Rattle.just_sched_history.proofs.classes.number_of.Goals as goal

pub returns-in-None : goal.returns-in-None
returns-in-None c = number_new c.args.class c.args.next c.args.numbers.now c.insert.new.self (sym c.in_ok-insert.ensures.old ∙ c.in-None.is) c.in_ok-insert.ensures.updates

pub returns-in_ok-insert-in-Some : goal.returns-in_ok-insert-in-Some
returns-in_ok-insert-in-Some c =
    number_again c.args.class c.args.next c.in-Some.number c.args.numbers.now c.insert.new.self c.insert-in-Some.new.self (sym c.in_ok-insert.ensures.old ∙ c.in-Some.is) c.in_ok-insert.ensures.updates
    c.in_ok-insert-in-Some.ensures.updates
