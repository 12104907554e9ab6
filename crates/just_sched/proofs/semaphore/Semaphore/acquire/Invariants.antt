-- Nothing is to be kept while it is tried.
use Rattle.just_sched.proofs.semaphore.Semaphore.acquire.Given as goal

abbrev pub invariant-tries : goal.invariant-tries
invariant-tries g l = Unit {0}
