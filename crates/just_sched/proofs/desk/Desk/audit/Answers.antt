-- With no unit out no body runs, so none is open.
use Rattle.std.proofs.Common.{ap, sym, ◌∙◌, subst}
use Rattle.just_sched_history.specs.Running.{EachOpenRuns}
use Rattle.just_sched_book.proofs.Runners.{none_open}
use Rattle.just_sched.proofs.desk.Desk.audit.Goals as goal

pub invariant_of-self : goal.invariant_of-self
invariant_of-self g c = record { each_runs = subst EachOpenRuns (ap (λ v. v.items) (sym c.audit.ensures.same.3)) c.args.self.now.each_runs }

pub returns-clause-closed : goal.returns-clause-closed
returns-clause-closed g c = λ n.
    none_open c.audit.new.self.account (subst EachOpenRuns (ap (λ v. v.items) (sym c.audit.ensures.same.3)) c.args.self.now.each_runs) n (sym c.audit.ensures.units ∙ c.audit.ensures.seat.1 ∙ c.requires.units)
