-- What is read says what the tables note.
use Rattle.std.proofs.Common.{sym, subst}
use Rattle.std.proofs.Math.Bool.{Bool-set}
use Rattle.std.proofs.Math.Logic.{∥∥₁_elim}
use Rattle.just_sched_history.specs.Rows.{IsTable}
use Rattle.just_sched_history.specs.State.{is_confirmed, IsWanted}
use Rattle.just_sched_history.specs.Tables.{FlagsAre, FlagsMean}
use Rattle.just_sched_history.proofs.TablesLaws.{rows_of, wanted_of, confirmed_of, left_of}
use Rattle.just_sched_history.proofs.tables.Tables.first_to_ask.Goals as goal

pub first_asked_by-requires-clause-left : goal.first_asked_by-requires-clause-left
first_asked_by-requires-clause-left c = left_of c.args.plan.now.nodes c.args.plan.now.invocations c.args.history.now c.args.self.now c.requires.noted

pub first_asked_by-requires-clause-table : goal.first_asked_by-requires-clause-table
first_asked_by-requires-clause-table c = subst (λ rows. ∥ IsTable c.args.history.now rows ∥₁) (sym c.as_slice-3.ensures.value) (rows_of c.requires.noted)

pub first_asked_by-requires-clause-wanted : goal.first_asked_by-requires-clause-wanted
first_asked_by-requires-clause-wanted c =
    let plan = c.args.plan.now in
    subst (λ flags. FlagsMean flags (IsWanted plan.nodes plan.invocations c.args.history.now)) (sym c.as_slice.ensures.value)
    (wanted_of plan.nodes plan.invocations c.args.history.now c.args.self.now plan.well c.requires.noted c.requires.size)

pub first_asked_by-requires-clause-confirmed : goal.first_asked_by-requires-clause-confirmed
first_asked_by-requires-clause-confirmed c =
    let plan = c.args.plan.now in
    subst (λ flags. FlagsAre flags (is_confirmed plan.nodes c.args.history.now)) (sym c.as_slice-2.ensures.value)
    (confirmed_of plan.nodes plan.invocations c.args.history.now c.args.self.now plan.well c.requires.noted c.requires.size)

pub first_asked_by-requires-clause-prompted : goal.first_asked_by-requires-clause-prompted
first_asked_by-requires-clause-prompted c = λ m lt there. ∥∥₁_elim c.requires.noted (Bool-set _ _) (λ n. n.prompted m lt there)
