-- Where the node isn't finished by it, none is left; where it is, the one of whose subsequents it is one.
use Rattle.std.proofs.Common.{◌≡◌, ℕ, Bool, true, true≢false, List, arith, subst, sym, ap, ◌∙◌, refl}
use Rattle.std.specs.Prelude.{Contains, Some}
use Rattle.just_sched_history.specs.Nodes.{subsequents_at}
use Rattle.just_sched_history.specs.Tables.{flag}
use Rattle.just_sched_history.proofs.Rising.{priors_led, closed_here, closed_next, told_next}
use Rattle.just_sched_history.proofs.CoveredLaws.{covered_by_raised}
use Rattle.just_sched_history.proofs.progress.Progress.rise.Goals as goal

pub returns-then-not-go_through-clause-closed : goal.returns-then-not-go_through-clause-closed
returns-then-not-go_through-clause-closed c =
    let plan = c.args.plan.now in
    let left = c.go_through.ensures.not_through c.if-not-go_through.true in
    closed_here plan.nodes plan.invocations c.args.self.now c.go_through.new.self c.args.at c.requires.closed (ap (λ v. v.items) c.go_through.ensures.same.0) (ap (λ v. v.items) c.go_through.ensures.same.1) (ap (λ v. v.items) c.go_through.ensures.same.2) c.go_through.ensures.raised c.go_through.ensures.led
    (λ all. absurd (true≢false (sym (all left.0 left.1) ∙ left.2)))

pub returns-then-not-go_through-clause-told : goal.returns-then-not-go_through-clause-told
returns-then-not-go_through-clause-told c = λ h told. c.go_through.ensures.told h (c.requires.closed.over c.args.at refl) told

pub returns-then-is_up-clause-closed : goal.returns-then-is_up-clause-closed
returns-then-is_up-clause-closed c =
    let plan = c.args.plan.now in
    let up : flag c.as_slice-finished.result.now c.args.at ≡ true = sym c.is_up.ensures ∙ c.if-is_up.true in
    closed_here plan.nodes plan.invocations c.args.self.now c.go_through.new.self c.args.at c.requires.closed (ap (λ v. v.items) c.go_through.ensures.same.0) (ap (λ v. v.items) c.go_through.ensures.same.1) (ap (λ v. v.items) c.go_through.ensures.same.2) c.go_through.ensures.raised c.go_through.ensures.led
    (λ all. subst (λ (xs : List Bool). flag xs c.args.at ≡ true) c.as_slice-finished.ensures.value up)

pub returns-then-is_up-clause-told : goal.returns-then-is_up-clause-told
returns-then-is_up-clause-told c = λ h told. c.go_through.ensures.told h (c.requires.closed.over c.args.at refl) told

pub finish-requires-clause-priors : goal.finish-requires-clause-priors
finish-requires-clause-priors c =
    let plan = c.args.plan.now in
    priors_led plan.nodes plan.invocations c.args.self.now c.go_through.new.self c.args.at c.requires.closed (ap (λ v. v.items) c.go_through.ensures.same.0) (ap (λ v. v.items) c.go_through.ensures.same.1) (ap (λ v. v.items) c.go_through.ensures.same.2) c.go_through.ensures.raised c.go_through.ensures.led

pub returns-clause-closed : goal.returns-clause-closed
returns-clause-closed c =
    let plan = c.args.plan.now in
    let p1 = c.go_through.new.self in
    closed_next plan.nodes plan.invocations c.args.self.now p1 c.args.at c.requires.closed (ap (λ v. v.items) c.go_through.ensures.same.0) (ap (λ v. v.items) c.go_through.ensures.same.1) (ap (λ v. v.items) c.go_through.ensures.same.2) c.go_through.ensures.raised c.go_through.ensures.led
    c.finish.new.self (omega (arith, c.requires.within, p1.finished_sized, c.go_through.ensures.size, c.requires.size)) c.parent_over.result
    (ap (λ v. v.items) c.finish.ensures.over) c.finish.ensures.finished c.finish.ensures.raised c.finish.ensures.invocations c.finish.ensures.priors
    (subst (λ (xs : List Bool). (m : ℕ) → Contains (subsequents_at plan.nodes m) c.args.at → flag xs m ≡ true → c.parent_over.result ≡ Some m) c.as_slice-over.ensures.value c.parent_over.ensures.parent)
    (subst (λ (xs : List Bool). (m : ℕ) → c.parent_over.result ≡ Some m → flag xs m ≡ true) c.as_slice-over.ensures.value c.parent_over.ensures.over)

pub returns-clause-told : goal.returns-clause-told
returns-clause-told c = λ h told.
    let plan = c.args.plan.now in
    let p1 = c.go_through.new.self in
    let up = c.requires.closed.over c.args.at refl in
    told_next plan.nodes plan.invocations h p1 c.finish.new.self c.args.at (omega (arith, c.requires.within, p1.over_sized, c.go_through.ensures.size, c.requires.size))
    (subst (λ (xs : List Bool). flag xs c.args.at ≡ true) (sym (ap (λ v. v.items) c.go_through.ensures.same.0)) up)
    (c.go_through.ensures.through c.if-not-go_through.false) (ap (λ v. v.items) c.finish.ensures.over) c.finish.ensures.finished (ap (λ v. v.items) c.finish.ensures.confirmed) c.finish.ensures.wanted (c.go_through.ensures.told h up told)

pub returns-clause-covered : goal.returns-clause-covered
returns-clause-covered c = λ gone began.
    c.finish.ensures.covered gone
    (covered_by_raised c.args.plan.now.nodes gone c.args.due.now.flags.items c.args.self.now c.go_through.new.self (ap (λ v. v.items) c.go_through.ensures.same.1) (ap (λ v. v.items) c.go_through.ensures.same.2) c.go_through.ensures.raised began)
