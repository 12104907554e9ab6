-- No list is begun, and nothing is pending.
use Rattle.std.proofs.Common.{refl, arith}
use Rattle.just_sched_history.proofs.Placing.{placed_blank}
use Rattle.just_sched_history.proofs.progress.Progress.blank.Goals as goal

pub returns-clause-placed : goal.returns-clause-placed
returns-clause-placed c =
    placed_blank c.args.plan.now.nodes c.args.plan.now.invocations _ refl c.in_ok-priors.ensures.first c.in_ok-subsequents.ensures.first c.in_ok-pending.ensures.items
    (omega (arith, c.in_ok-wanted.ensures.len, c.in_ok-pending.ensures.capacity)) c.in_ok-dependents.ensures.whole c.in_ok-dependents.ensures.inside
