-- A node that an event shows to be over well is entered; else what the flags say stays.
use Rattle.std.proofs.Common.{◌<◌, true, length, arith}
use Rattle.std.proofs.Math.ListN.{length-set}
use Rattle.just_sched_history.proofs.Going.{told_still, finished_still, confirmed_still, wanted_still, over_raised, names_none, names_past}
use Rattle.just_sched_history.proofs.progress.Progress.go_on.Goals as goal

pub returns-in_default-clause-told : goal.returns-in_default-clause-told
returns-in_default-clause-told c = λ h later by sure told.
    let plan = c.args.plan.now in
    told_still plan.nodes plan.invocations h later c.args.over by sure c.args.self.now told (λ k lt. names_none c.args.over c.in_default.is k)

pub returns-then-at-self-clause-told : goal.returns-then-at-self-clause-told
returns-then-at-self-clause-told c = λ h later by sure told.
    let plan = c.args.plan.now in
    let p = c.args.self.now in
    let within : c.in-Some.node < length p.over.items = omega (arith, c.if-at-self.true, p.over_sized) in
    c.settle.ensures.told later
    (over_raised plan.nodes plan.invocations h later c.args.over by sure p told c.in-Some.node c.in-Some.is within (length-set p.over.items c.in-Some.node true))
    (finished_still plan.nodes plan.invocations h later c.args.over by sure p told)
    (confirmed_still plan.nodes plan.invocations h later c.args.over by sure p told)
    (wanted_still plan.nodes plan.invocations h later c.args.over by sure p told)

pub returns-else-at-self-clause-told : goal.returns-else-at-self-clause-told
returns-else-at-self-clause-told c = λ h later by sure told.
    let plan = c.args.plan.now in
    let p = c.args.self.now in
    told_still plan.nodes plan.invocations h later c.args.over by sure p told
    (λ k lt. names_past c.args.over c.in-Some.node p.size c.in-Some.is (λ less. omega (arith, less, c.if-at-self.false)) k (omega (arith, lt, p.over_sized)))
