-- Of no events each of these facts holds.
use Rattle.std.proofs.Common.{sym, subst}
use Rattle.just_sched_history.specs.Running.{EachOpenRuns}
use Rattle.just_sched.proofs.desk.Desk.new.Goals as goal

pub invariant_of-result : goal.invariant_of-result
invariant_of-result g c = record { each_runs = subst EachOpenRuns (sym c.requires) (λ n o. absurd (cc o)) }
