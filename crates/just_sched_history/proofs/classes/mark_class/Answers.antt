-- The flag of the class of the node of an event is set by it.
use Rattle.std.proofs.Common.{refl, subst, arith}
use Rattle.just_sched_history.specs.Classes.{IsShift, class_of}
use Rattle.just_sched_history.proofs.ClassLaws.{shifted, shifted_past, unshifted}
use Rattle.just_sched_history.proofs.classes.mark_class.Goals as goal

pub returns-then-at-classes-clause-opened : goal.returns-then-at-classes-clause-opened
returns-then-at-classes-clause-opened c = λ h numbers keeps old.
    let plan = c.args.plan.now in
    shifted plan.nodes h c.args.classes.now c.args.opened.now.items c.args.event.now c.in-Some.node (class_of c.args.classes.now c.in-Some.node) c.in-Some.up (omega (arith, c.if-at-classes.true, c.requires.sized)) (omega (arith, c.requires.opened_sized, c.args.opened.now.ok.0))
    refl (subst (λ o. IsShift o c.args.event.now) c.in-Some.is c.shift_of.ensures) numbers keeps old

pub returns-else-at-classes-clause-opened : goal.returns-else-at-classes-clause-opened
returns-else-at-classes-clause-opened c = λ h numbers keeps old.
    let plan = c.args.plan.now in
    shifted_past plan.nodes h c.args.classes.now c.args.opened.now.items c.args.event.now c.in-Some.node c.in-Some.up (omega (arith, c.if-at-classes.false, c.requires.sized)) (subst (λ o. IsShift o c.args.event.now) c.in-Some.is c.shift_of.ensures) old

pub returns-in_default-clause-opened : goal.returns-in_default-clause-opened
returns-in_default-clause-opened c = λ h numbers keeps old.
    unshifted c.args.plan.now.nodes h c.args.classes.now c.args.opened.now.items c.args.event.now (subst (λ o. IsShift o c.args.event.now) c.in_default.is c.shift_of.ensures) old
