-- Each open body runs whenever the lock is free.
use Rattle.just_sched.proofs.desk.Desk.open_bodies.Goals as goal

pub returns-clause-each : goal.returns-clause-each
returns-clause-each g c = c.args.self.now.each_runs
