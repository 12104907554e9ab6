-- Whether a node is over is noted in its row.
use Rattle.std.proofs.Common.{◌||◌, length, sym, ap, ◌∙◌, arith}
use Rattle.just_sched_book.proofs.Accounts.{node_in}
use Rattle.just_sched_history.proofs.RowLaws.{over_in}
use Rattle.just_sched_history.proofs.TablesLaws.{rows_of}
use Rattle.just_sched_book.proofs.book.Book.is_over.Goals as goal

pub row-row-requires : goal.row-row-requires
row-row-requires g c =
    let s = c.args.self.now in
    omega (arith, node_in s.account c.args.node c.requires, s.sized, ap (λ p. length p.nodes) s.plan_named)

pub returns-then-row : goal.returns-then-row
returns-then-row g c =
    let s = c.args.self.now in
    let r = c.row-row.result in
    c.if-row.true ∙ ap (λ b. b || r.done) (sym c.if-row.true) ∙ over_in s.history.items s.tables.rows.items (rows_of s.noted) c.args.node r c.row-row.ensures.is c.row-row.ensures.within

pub returns-else-row : goal.returns-else-row
returns-else-row g c =
    let s = c.args.self.now in
    let r = c.row-row.result in
    ap (λ b. b || r.done) (sym c.if-row.false) ∙ over_in s.history.items s.tables.rows.items (rows_of s.noted) c.args.node r c.row-row.ensures.is c.row-row.ensures.within
