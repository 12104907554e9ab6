-- What each step keeps, one behind the other.
use Rattle.std.proofs.Common.{ap}
use Rattle.just_sched_history.proofs.CoveredLaws.{covered_by_raised}
use Rattle.just_sched_history.proofs.progress.Progress.settle.Goals as goal

pub returns-clause-told : goal.returns-clause-told
returns-clause-told c = λ h over done said are. c.clear_pending.ensures.told h (c.climb.ensures.told h (c.enter.ensures.told h over done said are))

pub returns-clause-covered : goal.returns-clause-covered
returns-clause-covered c = λ gone began.
    c.clear_pending.ensures.covered gone (c.climb.ensures.covered gone
    (covered_by_raised c.args.plan.now.nodes gone c.args.due.now.flags.items c.args.self.now c.enter.new.self (ap (λ v. v.items) c.enter.ensures.finished) (ap (λ v. v.items) c.enter.ensures.confirmed) c.enter.ensures.raised began))
