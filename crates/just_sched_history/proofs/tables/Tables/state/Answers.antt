-- The state of a node is read from its row and its flags.
use Rattle.std.proofs.Common.{◌<◌, length, sym, subst, refl, ◌∙◌, arith}
use Rattle.just_sched_history.specs.Rows.{IsTable}
use Rattle.just_sched_history.specs.State.{is_confirmed, IsFinished, IsWanted}
use Rattle.just_sched_history.specs.Tables.{FlagsAre, FlagsMean}
use Rattle.just_sched_history.proofs.RowLaws.{well_in_row}
use Rattle.just_sched_history.proofs.TablesLaws.{rows_of, finished_of, wanted_of, confirmed_of, failed_row, open_row}
use Rattle.just_sched_history.proofs.tables.Tables.state.Goals as goal
use Rattle.just_sched_history.proofs.tables.Tables.state.Goals.{After-is_some}

-- the rows are the table
table : (c : After-is_some) → ∥ IsTable c.args.history.now c.as_slice-rows.result.now ∥₁
table c = subst (λ rows. ∥ IsTable c.args.history.now rows ∥₁) (sym c.as_slice-rows.ensures.value) (rows_of c.requires.noted)

-- the node has a row
within : (c : After-is_some) → c.args.node < length c.as_slice-rows.result.now
within c = omega (arith, c.requires.within, c.requires.size, c.as_slice-rows.ensures.len, c.args.self.now.rows_sized)

-- the flags of the finished nodes
finishes : (c : After-is_some) → FlagsMean c.as_slice-finished.result.now (IsFinished c.args.plan.now.nodes c.args.history.now)
finishes c =
    let plan = c.args.plan.now in
    subst (λ flags. FlagsMean flags (IsFinished plan.nodes c.args.history.now)) (sym c.as_slice-finished.ensures.value)
    (finished_of plan.nodes plan.invocations c.args.history.now c.args.self.now plan.well c.requires.noted c.requires.size)

-- the node has a flag
flagged : (c : After-is_some) → c.args.node < length c.as_slice-finished.result.now
flagged c = omega (arith, c.requires.within, c.requires.size, c.as_slice-finished.ensures.len, c.args.self.now.progress.finished_sized, c.args.self.now.progress_sized)

pub is_ready-requires-clause-table : goal.is_ready-requires-clause-table
is_ready-requires-clause-table c = table (goal.at.is_ready-requires-clause-table c).After-is_some

pub is_ready-requires-clause-finished : goal.is_ready-requires-clause-finished
is_ready-requires-clause-finished c = finishes (goal.at.is_ready-requires-clause-finished c).After-is_some

pub is_ready-requires-clause-wanted : goal.is_ready-requires-clause-wanted
is_ready-requires-clause-wanted c =
    let plan = c.args.plan.now in
    subst (λ flags. FlagsMean flags (IsWanted plan.nodes plan.invocations c.args.history.now)) (sym c.as_slice-wanted.ensures.value)
    (wanted_of plan.nodes plan.invocations c.args.history.now c.args.self.now plan.well c.requires.noted c.requires.size)

pub is_ready-requires-clause-confirmed : goal.is_ready-requires-clause-confirmed
is_ready-requires-clause-confirmed c =
    let plan = c.args.plan.now in
    subst (λ flags. FlagsAre flags (is_confirmed plan.nodes c.args.history.now)) (sym c.as_slice-confirmed.ensures.value)
    (confirmed_of plan.nodes plan.invocations c.args.history.now c.args.self.now plan.well c.requires.noted c.requires.size)

pub is_to_ask-requires-clause-table : goal.is_to_ask-requires-clause-table
is_to_ask-requires-clause-table c = table (goal.at.is_to_ask-requires-clause-table c).After-is_some

pub is_to_ask-requires-clause-wanted : goal.is_to_ask-requires-clause-wanted
is_to_ask-requires-clause-wanted c =
    let plan = c.args.plan.now in
    subst (λ flags. FlagsMean flags (IsWanted plan.nodes plan.invocations c.args.history.now)) (sym c.as_slice-wanted.ensures.value)
    (wanted_of plan.nodes plan.invocations c.args.history.now c.args.self.now plan.well c.requires.noted c.requires.size)

pub is_to_ask-requires-clause-confirmed : goal.is_to_ask-requires-clause-confirmed
is_to_ask-requires-clause-confirmed c =
    let plan = c.args.plan.now in
    subst (λ flags. FlagsAre flags (is_confirmed plan.nodes c.args.history.now)) (sym c.as_slice-confirmed.ensures.value)
    (confirmed_of plan.nodes plan.invocations c.args.history.now c.args.self.now plan.well c.requires.noted c.requires.size)

pub returns-then-is_some : goal.returns-then-is_some
returns-then-is_some c =
    let s = (goal.at.returns-then-is_some c).After-is_some in
    sym (failed_row c.args.history.now c.as_slice-rows.result.now (table s) c.args.node _ (within s)) ∙ sym c.if-is_some.ensures

pub returns-then-finished-at : goal.returns-then-finished-at
returns-then-finished-at c =
    let s = (goal.at.returns-then-finished-at c).After-is_some in
    (sym (failed_row c.args.history.now c.as_slice-rows.result.now (table s) c.args.node _ (within s)) ∙ sym c.if-is_some.ensures, (finishes s c.args.node (flagged s)).0 c.if-finished-at.true)

pub returns-then-row : goal.returns-then-row
returns-then-row c =
    let s = (goal.at.returns-then-row c).After-is_some in (
      sym (failed_row c.args.history.now c.as_slice-rows.result.now (table s) c.args.node _ (within s)) ∙ sym c.if-is_some.ensures,
      (finishes s c.args.node (flagged s)).1 c.if-finished-at.false,
      sym (well_in_row c.args.history.now c.as_slice-rows.result.now (table s) c.args.node _ (within s)) ∙ c.if-row.true,
    )

pub returns-then-is_open : goal.returns-then-is_open
returns-then-is_open c =
    let s = (goal.at.returns-then-is_open c).After-is_some in (
      sym (failed_row c.args.history.now c.as_slice-rows.result.now (table s) c.args.node _ (within s)) ∙ sym c.if-is_some.ensures,
      sym (well_in_row c.args.history.now c.as_slice-rows.result.now (table s) c.args.node _ (within s)) ∙ c.if-row.false,
      sym (open_row c.args.history.now c.as_slice-rows.result.now (table s) c.args.node _ (within s)) ∙ sym c.if-is_open.ensures,
    )

pub returns-then-is_to_ask : goal.returns-then-is_to_ask
returns-then-is_to_ask c =
    let s = (goal.at.returns-then-is_to_ask c).After-is_some in (
      record {
        not_failed = sym (failed_row c.args.history.now c.as_slice-rows.result.now (table s) c.args.node _ (within s)) ∙ sym c.if-is_some.ensures;
        not_over = sym (well_in_row c.args.history.now c.as_slice-rows.result.now (table s) c.args.node _ (within s)) ∙ c.if-row.false;
        not_open = sym (open_row c.args.history.now c.as_slice-rows.result.now (table s) c.args.node _ (within s)) ∙ sym c.if-is_open.ensures;
      },
      c.if-is_to_ask.ensures.is refl,
    )

pub returns-then-is_ready : goal.returns-then-is_ready
returns-then-is_ready c =
    let s = (goal.at.returns-then-is_ready c).After-is_some in (
      record {
        not_failed = sym (failed_row c.args.history.now c.as_slice-rows.result.now (table s) c.args.node _ (within s)) ∙ sym c.if-is_some.ensures;
        not_over = sym (well_in_row c.args.history.now c.as_slice-rows.result.now (table s) c.args.node _ (within s)) ∙ c.if-row.false;
        not_open = sym (open_row c.args.history.now c.as_slice-rows.result.now (table s) c.args.node _ (within s)) ∙ sym c.if-is_open.ensures;
      },
      c.if-is_to_ask.ensures.not_so refl,
      c.if-is_ready.ensures.is refl,
    )

pub returns-else-is_ready : goal.returns-else-is_ready
returns-else-is_ready c =
    let s = (goal.at.returns-else-is_ready c).After-is_some in (
      record {
        not_failed = sym (failed_row c.args.history.now c.as_slice-rows.result.now (table s) c.args.node _ (within s)) ∙ sym c.if-is_some.ensures;
        not_over = sym (well_in_row c.args.history.now c.as_slice-rows.result.now (table s) c.args.node _ (within s)) ∙ c.if-row.false;
        not_open = sym (open_row c.args.history.now c.as_slice-rows.result.now (table s) c.args.node _ (within s)) ∙ sym c.if-is_open.ensures;
      },
      c.if-is_to_ask.ensures.not_so refl,
      c.if-is_ready.ensures.not_so refl,
    )
