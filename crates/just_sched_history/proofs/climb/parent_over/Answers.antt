-- A subsequent's round names its node, which stands before it.
use Rattle.std.proofs.Common.{◌≡◌, ◌<◌, false, true≢false, arith, sym, ap, ◌∙◌, subst}
use Rattle.just_sched_history.specs.Tables.{flag}
use Rattle.just_sched_history.proofs.Entering.{some_is}
use Rattle.just_sched_history.proofs.Parents.{node_read, parent_is, parent_below}
use Rattle.just_sched_history.proofs.climb.parent_over.Goals as goal

pub returns-in_default-clause-parent : goal.returns-in_default-clause-parent
returns-in_default-clause-parent c = λ m at up.
    let plan = c.args.plan.now in
    sym c.in_default.is ∙ ap (λ x. x.node.round) c.index-as_slice-at.is
    ∙ parent_is plan.nodes plan.invocations plan.well c.args.at _ (node_read plan.nodes c.as_slice.result.now c.args.at c.index-as_slice-at.result c.as_slice.ensures c.requires.within) m at

pub bounds-over-next : goal.bounds-over-next
bounds-over-next c =
    let plan = c.args.plan.now in
    let below : c.in-Some.parent < c.args.at = parent_below plan.nodes plan.invocations plan.well c.args.at _ (node_read plan.nodes c.as_slice.result.now c.args.at c.index-as_slice-at.result c.as_slice.ensures c.requires.within) c.in-Some.parent (sym (ap (λ x. x.node.round) c.index-as_slice-at.is) ∙ c.in-Some.is) in
    omega (arith, below, c.requires.within, c.requires.sized)

pub returns-then-not-over-next-clause-parent : goal.returns-then-not-over-next-clause-parent
returns-then-not-over-next-clause-parent c = λ m at up.
    let plan = c.args.plan.now in
    let same = some_is c.in-Some.parent m (sym c.in-Some.is ∙ ap (λ x. x.node.round) c.index-as_slice-at.is
    ∙ parent_is plan.nodes plan.invocations plan.well c.args.at _ (node_read plan.nodes c.as_slice.result.now c.args.at c.index-as_slice-at.result c.as_slice.ensures c.requires.within) m at) in
    absurd (true≢false (sym up ∙ subst (λ i. flag c.args.over.now i ≡ false) same c.if-not-over-next.true))

pub returns-clause-parent : goal.returns-clause-parent
returns-clause-parent c = λ m at up.
    let plan = c.args.plan.now in
    sym c.in-Some.is ∙ ap (λ x. x.node.round) c.index-as_slice-at.is
    ∙ parent_is plan.nodes plan.invocations plan.well c.args.at _ (node_read plan.nodes c.as_slice.result.now c.args.at c.index-as_slice-at.result c.as_slice.ensures c.requires.within) m at

pub returns-clause-less : goal.returns-clause-less
returns-clause-less c =
    let plan = c.args.plan.now in
    parent_below plan.nodes plan.invocations plan.well c.args.at _ (node_read plan.nodes c.as_slice.result.now c.args.at c.index-as_slice-at.result c.as_slice.ensures c.requires.within) c.in-Some.parent (sym (ap (λ x. x.node.round) c.index-as_slice-at.is) ∙ c.in-Some.is)
