-- What is read says what the tables note.
use Rattle.std.proofs.Common.{sym, subst}
use Rattle.std.proofs.Math.Logic.{∥∥₁_map}
use Rattle.just_sched_history.specs.Classes.{AreClasses, AreOpen}
use Rattle.just_sched_history.specs.Rows.{IsTable}
use Rattle.just_sched_history.specs.State.{is_confirmed, IsFinished, IsWanted}
use Rattle.just_sched_history.specs.Tables.{FlagsAre, FlagsMean}
use Rattle.just_sched_history.proofs.NotDue.{not_due, covered_again}
use Rattle.just_sched_history.proofs.TablesLaws.{rows_of, classes_of, opened_of, finished_of, wanted_of, confirmed_of, left_of}
use Rattle.just_sched_history.proofs.tables.Tables.turn.Goals as goal

pub first_left-left-requires-clause-table : goal.first_left-left-requires-clause-table
first_left-left-requires-clause-table c = subst (λ rows. ∥ IsTable c.args.history.now rows ∥₁) (sym c.as_slice.ensures.value) (rows_of c.requires.noted)

pub first_left-left-requires-clause-before : goal.first_left-left-requires-clause-before
first_left-left-requires-clause-before c = left_of c.args.plan.now.nodes c.args.plan.now.invocations c.args.history.now c.args.self.now c.requires.noted

pub turn_by-requires-clause-table : goal.turn_by-requires-clause-table
turn_by-requires-clause-table c = subst (λ rows. ∥ IsTable c.args.history.now rows ∥₁) (sym c.as_slice-4.ensures.value) (rows_of c.requires.noted)

pub turn_by-requires-clause-wanted : goal.turn_by-requires-clause-wanted
turn_by-requires-clause-wanted c =
    let plan = c.args.plan.now in
    subst (λ flags. FlagsMean flags (IsWanted plan.nodes plan.invocations c.args.history.now)) (sym c.as_slice-2.ensures.value)
    (wanted_of plan.nodes plan.invocations c.args.history.now c.args.self.now plan.well c.requires.noted c.requires.size)

pub turn_by-requires-clause-finished : goal.turn_by-requires-clause-finished
turn_by-requires-clause-finished c =
    let plan = c.args.plan.now in
    subst (λ flags. FlagsMean flags (IsFinished plan.nodes c.args.history.now)) (sym c.as_slice-5.ensures.value)
    (finished_of plan.nodes plan.invocations c.args.history.now c.args.self.now plan.well c.requires.noted c.requires.size)

pub turn_by-requires-clause-due : goal.turn_by-requires-clause-due
turn_by-requires-clause-due c =
    let plan = c.args.plan.now in
    not_due plan.nodes plan.invocations c.args.history.now c.args.self.now plan.well c.requires.noted c.requires.size c.requires.took

pub returns-clause-noted : goal.returns-clause-noted
returns-clause-noted c =
    let plan = c.args.plan.now in
    ∥∥₁_map c.requires.noted (λ n. record {
      rows = n.rows;
      placed = n.placed;
      closed = n.closed;
      none = n.none;
      told = n.told;
      heard = n.heard;
      covered = covered_again plan.nodes plan.invocations c.args.history.now c.args.self.now plan.well c.requires.each_no c.turn_by.new.due.flags.items c.turn_by.ensures.due n;
      prompted = n.prompted;
      left = c.first_left-left.ensures;
      classes = n.classes;
      opened = n.opened;
    })

pub turn_by-requires-clause-confirmed : goal.turn_by-requires-clause-confirmed
turn_by-requires-clause-confirmed c =
    let plan = c.args.plan.now in
    subst (λ flags. FlagsAre flags (is_confirmed plan.nodes c.args.history.now)) (sym c.as_slice-3.ensures.value)
    (confirmed_of plan.nodes plan.invocations c.args.history.now c.args.self.now plan.well c.requires.noted c.requires.size)

pub turn_by-requires-clause-classes : goal.turn_by-requires-clause-classes
turn_by-requires-clause-classes c = subst (λ ns. ∥ AreClasses c.args.plan.now.nodes ns ∥₁) (sym c.as_slice-6.ensures.value) (classes_of c.requires.noted)

pub turn_by-requires-clause-opened : goal.turn_by-requires-clause-opened
turn_by-requires-clause-opened c =
    let t = c.args.self.now in
    subst (λ ns. ∥ AreOpen c.args.plan.now.nodes c.args.history.now ns c.as_slice-7.result.now ∥₁) (sym c.as_slice-6.ensures.value)
    (subst (λ flags. ∥ AreOpen c.args.plan.now.nodes c.args.history.now t.classes.items flags ∥₁) (sym c.as_slice-7.ensures.value) (opened_of c.requires.noted))
