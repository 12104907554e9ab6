-- A node is to be asked where its flags and its row say so.
use Rattle.std.proofs.Common.{true≢false, arith, sym, ◌∙◌}
use Rattle.just_sched_history.proofs.Asking.{to_ask_by, to_ask_unsure}
use Rattle.just_sched_history.proofs.RowLaws.{done_in_row}
use Rattle.just_sched_history.proofs.Tests.{not_true, not_false}
use Rattle.just_sched_history.proofs.choice.is_to_ask.Goals as goal

pub returns-clause-is : goal.returns-clause-is
returns-clause-is c = λ e.
    let plan = c.args.plan.now in
    to_ask_by plan.nodes plan.invocations c.args.history.now c.args.at c.requires.each_no
    ((c.requires.wanted c.args.at (omega (arith, c.requires.within, c.requires.wanted_sized))).0 c.if-not-wanted-at.false)
    (sym (c.requires.confirmed c.args.at (omega (arith, c.requires.within, c.requires.confirmed_sized))) ∙ c.if-confirmed-at.false)
    (sym (done_in_row c.args.history.now c.args.rows.now c.requires.table c.args.at _ (omega (arith, c.requires.within, c.requires.rows_sized))) ∙ not_true _ e)

pub returns-clause-not_so : goal.returns-clause-not_so
returns-clause-not_so c = λ e to_ask.
    true≢false (sym (not_false _ e) ∙ done_in_row c.args.history.now c.args.rows.now c.requires.table c.args.at _ (omega (arith, c.requires.within, c.requires.rows_sized)) ∙ to_ask.not_done)

pub returns-then-confirmed-at-clause-not_so : goal.returns-then-confirmed-at-clause-not_so
returns-then-confirmed-at-clause-not_so c = λ _ to_ask.
    let plan = c.args.plan.now in
    true≢false (sym c.if-confirmed-at.true ∙ c.requires.confirmed c.args.at (omega (arith, c.requires.within, c.requires.confirmed_sized)) ∙ to_ask_unsure plan.nodes plan.invocations c.args.history.now c.args.at to_ask)
