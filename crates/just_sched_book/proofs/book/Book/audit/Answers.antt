-- The ledger's total is the number of running bodies.
use Rattle.std.proofs.Common.{arith}
use Rattle.just_sched_book.proofs.Runners.{units_are}
use Rattle.just_sched_book.proofs.book.Book.audit.Goals as goal

pub returns-clause-units : goal.returns-clause-units
returns-clause-units g c =
    let s = c.args.self.now in
    omega (arith, c.audit.ensures.amount, c.audit.ensures.whole c.requires, units_are s.account s.tally.total s.tallied)
