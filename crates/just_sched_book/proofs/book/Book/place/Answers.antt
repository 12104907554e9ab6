-- The place of a node's command is noted in its row.
use Rattle.std.proofs.Common.{ℕ, Option, Some, None, length, sym, ap, ◌∙◌, arith}
use Rattle.just_sched_book.proofs.Accounts.{node_in}
use Rattle.just_sched_history.proofs.RowLaws.{place_in}
use Rattle.just_sched_history.proofs.TablesLaws.{rows_of}
use Rattle.just_sched_book.proofs.book.Book.place.Goals as goal

-- the place of a command that may be there
place_of : Option (ℕ × ℕ) → ℕ
place_of None = 0
place_of (Some p) = p.0

pub row-requires : goal.row-requires
row-requires g c =
    let s = c.args.self.now in
    omega (arith, node_in s.account c.args.node c.requires, s.sized, ap (λ p. length p.nodes) s.plan_named)

pub returns-in-Some : goal.returns-in-Some
unfolding place_of
returns-in-Some g c = λ i k e.
    let s = c.args.self.now in
    ap place_of (sym c.in-Some.is ∙ place_in s.history.items s.tables.rows.items (rows_of s.noted) c.args.node c.row.result c.row.ensures.is c.row.ensures.within i k e)

pub returns-in-None : goal.returns-in-None
unfolding place_of
returns-in-None g c = λ i k e.
    let s = c.args.self.now in
    ap place_of (sym c.in-None.is ∙ place_in s.history.items s.tables.rows.items (rows_of s.noted) c.args.node c.row.result c.row.ensures.is c.row.ensures.within i k e)
