-- What is read says what the tables note.
use Rattle.std.proofs.Common.{sym, subst}
use Rattle.just_sched_history.specs.Rows.{IsTable}
use Rattle.just_sched_history.specs.State.{IsFinished}
use Rattle.just_sched_history.specs.Tables.{FlagsMean}
use Rattle.just_sched_history.proofs.TablesLaws.{rows_of, finished_of}
use Rattle.just_sched_history.proofs.tables.Tables.verdict.Goals as goal

pub verdict_by-requires-clause-table : goal.verdict_by-requires-clause-table
verdict_by-requires-clause-table c = subst (λ rows. ∥ IsTable c.args.history.now rows ∥₁) (sym c.as_slice-2.ensures.value) (rows_of c.requires.noted)

pub verdict_by-requires-clause-finished : goal.verdict_by-requires-clause-finished
verdict_by-requires-clause-finished c =
    let plan = c.args.plan.now in
    subst (λ flags. FlagsMean flags (IsFinished plan.nodes c.args.history.now)) (sym c.as_slice.ensures.value)
    (finished_of plan.nodes plan.invocations c.args.history.now c.args.self.now plan.well c.requires.noted c.requires.size)
