-- What the invitation tells stays told.
use Rattle.std.proofs.Common.{[], ◌≡◌, true}
use Rattle.just_sched_history.specs.Tables.{flag}
use Rattle.just_sched_history.proofs.Beginning.{covered_begun}
use Rattle.just_sched_history.proofs.progress.Progress.new.Goals as goal

pub returns-clause-told : goal.returns-clause-told
returns-clause-told c = c.clear_pending.ensures.told [] c.invite.ensures.told

pub returns-clause-covered : goal.returns-clause-covered
returns-clause-covered c = λ gone.
    c.clear_pending.ensures.covered gone (covered_begun c.args.plan.now.nodes gone c.args.due.now.flags.items c.in_ok-progress.progress c.invite.new.self c.in_ok-progress.ensures.wanted c.invite.ensures.raised)
