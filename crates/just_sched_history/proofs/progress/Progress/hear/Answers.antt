-- Who was flagged as confirmed stays so, and so is the one that is named.
use Rattle.std.proofs.Common.{◌≡◌, true, arith, subst, sym, ap, ◌∙◌}
use Rattle.just_sched_history.specs.State.{names}
use Rattle.just_sched_history.specs.Tables.{flag}
use Rattle.just_sched_history.proofs.Confirming.{heard_set, heard_none}
use Rattle.just_sched_history.proofs.Going.{names_none, names_past, same_is}
use Rattle.just_sched_history.proofs.progress.Progress.hear.Goals as goal

pub returns-in_default-clause-heard : goal.returns-in_default-clause-heard
returns-in_default-clause-heard c = λ k lt either. heard_none (flag c.args.self.now.confirmed.items k) (names c.args.said k) (names_none c.args.said c.in_default.is k) either

pub returns-then-at-self-clause-heard : goal.returns-then-at-self-clause-heard
returns-then-at-self-clause-heard c = λ k lt either.
    let p = c.args.self.now in
    subst (λ v. flag v.items k ≡ true) (sym c.clear_pending.ensures.confirmed)
    (subst (λ xs. flag xs k ≡ true) (sym c.confirm.ensures.confirmed) (heard_set p.confirmed.items c.args.said c.in-Some.node k c.in-Some.is (omega (arith, c.if-at-self.true, p.confirmed_sized)) either))

pub returns-then-at-self-clause-told : goal.returns-then-at-self-clause-told
returns-then-at-self-clause-told c = λ h sure told.
    c.clear_pending.ensures.told h (c.confirm.ensures.told h (sure c.in-Some.node (ap (λ o. names o c.in-Some.node) c.in-Some.is ∙ same_is c.in-Some.node)) told)

pub returns-else-at-self-clause-heard : goal.returns-else-at-self-clause-heard
returns-else-at-self-clause-heard c = λ k lt either.
    let p = c.args.self.now in
    heard_none (flag p.confirmed.items k) (names c.args.said k) (names_past c.args.said c.in-Some.node p.size c.in-Some.is (λ less. omega (arith, less, c.if-at-self.false)) k (omega (arith, lt, p.confirmed_sized))) either

pub returns-then-at-self-clause-covered : goal.returns-then-at-self-clause-covered
returns-then-at-self-clause-covered c = λ gone began. c.clear_pending.ensures.covered gone (c.confirm.ensures.covered gone began)
