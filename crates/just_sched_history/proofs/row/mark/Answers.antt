-- An event turns the row of its node, and no other.
use Rattle.std.proofs.Common.{ne_eqb, get_or, sym, subst, ap, ◌∙◌, arith}
use Rattle.just_sched_history.specs.Rows.{IsTurned}
use Rattle.just_sched_history.specs.State.{names}
use Rattle.just_sched_history.proofs.RowLaws.{table_turned, table_stays}
use Rattle.just_sched_history.proofs.row.mark.Goals as goal

pub returns-then-at-len-clause-table : goal.returns-then-at-len-clause-table
returns-then-at-len-clause-table c = λ h long is.
    let e = c.args.event.now in
    let node = c.in-Some.node in
    table_turned h e c.args.rows.now.items node c.index.result.now c.turned.result is (omega (arith, c.if-at-len.true, c.len.ensures)) (λ n other. ap (λ o. names o n) (sym c.node_of.ensures ∙ c.in-Some.is) ∙ ne_eqb node n (λ same. other (sym same))) (subst (λ k. IsTurned node k e (get_or c.args.rows.now.items node c.index.result.now) c.turned.result) (sym long) (subst (λ r. IsTurned node c.args.place e r c.turned.result) c.index.ensures c.turned.ensures))

pub returns-else-at-len-clause-table : goal.returns-else-at-len-clause-table
returns-else-at-len-clause-table c = λ h long is.
    let node = c.in-Some.node in
    table_stays h c.args.event.now c.args.rows.now.items is (λ n lt. ap (λ o. names o n) (sym c.node_of.ensures ∙ c.in-Some.is) ∙ ne_eqb node n (λ same. omega (arith, lt, c.if-at-len.false, same)))

pub returns-in_default-clause-table : goal.returns-in_default-clause-table
returns-in_default-clause-table c = λ h long is. table_stays h c.args.event.now c.args.rows.now.items is (λ n lt. ap (λ o. names o n) (sym c.node_of.ensures ∙ c.in_default.is))
