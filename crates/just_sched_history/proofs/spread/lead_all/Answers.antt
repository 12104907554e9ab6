-- All are wanted, and then the list is led, by which each that may come next is wanted.
use Rattle.just_sched_history.proofs.Led.{raised_on}
use Rattle.just_sched_history.proofs.spread.lead_all.Goals as goal

pub returns-clause-raised : goal.returns-clause-raised
returns-clause-raised c = raised_on _ _ _ _ _ _ c.want_all.ensures.raised c.lead-2.ensures.raised
