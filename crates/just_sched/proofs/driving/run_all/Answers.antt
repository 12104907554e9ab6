-- At the end there is a reason why no move can be made.
use Rattle.std.proofs.Common.{ap, sym, subst}
use Rattle.just_sched_history.specs.Idle.{IsIdle}
use Rattle.just_sched_history.specs.Start.{run_of}
use Rattle.just_sched.proofs.driving.run_all.Goals as goal

pub returns-in-Idle-clause-idle : goal.returns-in-Idle-clause-idle
returns-in-Idle-clause-idle g c =
    (c.in-Idle.field-0, subst (λ h. IsIdle (run_of g.P.Naming.start) h c.in-Idle.field-0) (ap (λ v. v.items) (sym c.audit.ensures.same.1)) c.in-Idle.ensures.idle)
