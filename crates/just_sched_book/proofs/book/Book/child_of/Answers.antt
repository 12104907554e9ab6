-- A node that runs has a last start, by which it runs with that child; both are noted in its row.
use Rattle.std.proofs.Common.{◌≡◌, true, length, ap, sym, ◌∙◌, arith}
use Rattle.just_sched_history.specs.State.{is_running}
use Rattle.just_sched_history.proofs.RowLaws.{running_in, started_in}
use Rattle.just_sched_book.proofs.Runners.{outside_still, running_last, running_open}
use Rattle.just_sched_history.proofs.TablesLaws.{rows_of}
use Rattle.just_sched_book.proofs.book.Book.child_of.Goals as goal

pub returns-then-node-self : goal.returns-then-node-self
returns-then-node-self g c =
    let s = c.args.self.now in
    outside_still s.account c.args.node (omega (arith, c.if-node-self.true, s.sized, ap (λ p. length p.nodes) s.plan_named))

pub returns-then-not-is_running : goal.returns-then-not-is_running
returns-then-not-is_running g c =
    let s = c.args.self.now in
    sym (running_in s.history.items s.tables.rows.items (rows_of s.noted) c.args.node c.row-row.result c.row-row.ensures.is c.row-row.ensures.within) ∙ sym c.is_running.ensures ∙ c.if-not-is_running.true

pub unreachable-requires : goal.unreachable-requires
unreachable-requires g c =
    let s = c.args.self.now in
    running_last s.account c.args.node
    (sym (running_in s.history.items s.tables.rows.items (rows_of s.noted) c.args.node c.row-row.result c.row-row.ensures.is c.row-row.ensures.within) ∙ sym c.is_running.ensures ∙ c.if-not-is_running.false)
    (sym (started_in s.history.items s.tables.rows.items (rows_of s.noted) c.args.node c.row-row.result c.row-row.ensures.is c.row-row.ensures.within) ∙ c.in-None.is)

pub returns : goal.returns
returns g c =
    let s = c.args.self.now in
    let run : is_running s.history.items c.args.node ≡ true =
    sym (running_in s.history.items s.tables.rows.items (rows_of s.noted) c.args.node c.row-row.result c.row-row.ensures.is c.row-row.ensures.within) ∙ sym c.is_running.ensures ∙ c.if-not-is_running.false in
    record {
      opened = running_open s.account c.args.node run;
      runs = run;
      place = c.in-Some.field-0-0;
      started = sym (started_in s.history.items s.tables.rows.items (rows_of s.noted) c.args.node c.row-row.result c.row-row.ensures.is c.row-row.ensures.within) ∙ c.in-Some.is;
    }
