-- Whether a node was begun is noted in its row.
use Rattle.std.proofs.Common.{ap, length, arith}
use Rattle.just_sched_book.proofs.Accounts.{node_in}
use Rattle.just_sched_history.proofs.RowLaws.{begun_in}
use Rattle.just_sched_history.proofs.TablesLaws.{rows_of}
use Rattle.just_sched_book.proofs.book.Book.is_begun.Goals as goal

pub row-requires : goal.row-requires
row-requires g c =
    let s = c.args.self.now in
    omega (arith, node_in s.account c.args.node c.requires, s.sized, ap (λ p. length p.nodes) s.plan_named)

pub returns : goal.returns
returns g c =
    let s = c.args.self.now in
    begun_in s.history.items s.tables.rows.items (rows_of s.noted) c.args.node c.row.result c.row.ensures.is c.row.ensures.within
