-- The step that the plan of the book says is that of the run.
use Rattle.std.proofs.Common.{◌<◌, List, arith, ap, ◌∙◌, length, get_or}
use Rattle.std.proofs.lemmas.Option.{slice_get-get_or}
use Rattle.just_sched_history.specs.declared.plan_node.PlanNode.{PlanNode}
use Rattle.just_sched_history.specs.State.{next_step}
use Rattle.just_sched_book.proofs.Accounts.{node_in}
use Rattle.just_sched_history.proofs.AfterLaws.{judged_node}
use Rattle.just_sched_history.proofs.RowLaws.{ended_in, last_in}
use Rattle.just_sched_history.proofs.TablesLaws.{rows_of}
use Rattle.just_sched_book.proofs.book.Book.next_step.Goals as goal

pub row-row-requires : goal.row-row-requires
row-row-requires g c =
    let s = c.args.self.now in
    omega (arith, node_in s.account c.args.node c.requires, s.sized, ap (λ p. length p.nodes) s.plan_named)

pub returns : goal.returns
returns g c =
    let s = c.args.self.now in
    let r = c.row-row.result in
    let nodes = c.as_slice-nodes.result.now in
    let named = c.as_slice-nodes.ensures ∙ ap (λ p. p.nodes) s.plan_named in
    let within : c.args.node < length nodes = omega (arith, node_in s.account c.args.node c.requires, ap (λ (xs : List PlanNode). length xs) named) in
    c.step_behind.ensures
    ∙ judged_node nodes s.history.items c.args.node r.ended r.last (get_or nodes c.args.node c.index-nodes-node.result)
    (ended_in s.history.items s.tables.rows.items (rows_of s.noted) c.args.node r c.row-row.ensures.is c.row-row.ensures.within)
    (last_in s.history.items s.tables.rows.items (rows_of s.noted) c.args.node r c.row-row.ensures.is c.row-row.ensures.within)
    (slice_get-get_or nodes c.args.node c.index-nodes-node.result within)
    ∙ ap (λ (xs : List PlanNode). next_step xs s.history.items c.args.node) named
