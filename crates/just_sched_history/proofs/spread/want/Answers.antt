-- A flag that was down is raised, and its node listed.
use Rattle.std.proofs.Common.{sym, subst, List, ℕ, true, slice_set}
use Rattle.just_sched_history.specs.Led.{IsRaised}
use Rattle.just_sched_history.proofs.Led.{raised_one}
use Rattle.just_sched_history.proofs.spread.want.Goals as goal

pub returns-then-not-wanted-at-clause-raised : goal.returns-then-not-wanted-at-clause-raised
returns-then-not-wanted-at-clause-raised c =
    subst (λ (xs : List ℕ). IsRaised c.args.wanted.now (slice_set c.args.wanted.now c.args.node true) c.args.pending.now.items xs) (sym c.push_reserved.ensures.items)
    (raised_one c.args.wanted.now c.args.pending.now.items c.args.node c.requires.within c.if-not-wanted-at.true)
