-- The tables tell it.
use Rattle.std.proofs.Common.{ap, ap₂, length, arith, sym, subst, ◌∙◌}
use Rattle.just_sched_history.specs.Cached.{saw_full}
use Rattle.just_sched_history.specs.Rows.{IsTable}
use Rattle.just_sched_history.proofs.TablesLaws.{rows_of}
use Rattle.just_sched_book.proofs.Accounts.{node_in}
use Rattle.just_sched_book.proofs.book.Book.saw_full.Goals as goal

pub saw_full-requires-clause-within : goal.saw_full-requires-clause-within
saw_full-requires-clause-within g c =
    let s = c.args.self.now in
    omega (arith, node_in s.account c.args.node c.requires, s.sized, ap (λ p. length p.nodes) s.plan_named)

pub saw_full-requires-clause-table : goal.saw_full-requires-clause-table
saw_full-requires-clause-table g c = subst (λ h. ∥ IsTable h c.args.self.now.tables.rows.items ∥₁) (sym c.as_slice.ensures.value) (rows_of c.args.self.now.noted)

pub returns : goal.returns
returns g c =
    c.saw_full.ensures ∙ ap₂ (λ p h. saw_full p.nodes h c.args.node) c.args.self.now.plan_named c.as_slice.ensures.value
