-- A move leaves each open body running.
use Rattle.just_sched_history.specs.Start.{run_of}
use Rattle.just_sched_book.proofs.Runners.{each_next}
use Rattle.just_sched.proofs.desk.Desk.next.Goals as goal

pub invariant_of-self : goal.invariant_of-self
invariant_of-self g c = record { each_runs = each_next c.next.result (run_of g.P.Naming.start) _ _ _ c.args.self.now.each_runs c.next.ensures.did }
