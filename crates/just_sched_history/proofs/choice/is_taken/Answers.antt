-- Whether a node took a job or is done is noted in its row.
use Rattle.just_sched_history.proofs.RowLaws.{or_left, or_right, taken_or_done}
use Rattle.just_sched_history.proofs.choice.is_taken.Goals as goal

pub returns-then-row : goal.returns-then-row
returns-then-row c = or_left _ _ _ (taken_or_done c.args.history.now c.args.rows.now c.requires.table c.args.at _ c.requires.within) c.if-row.true

pub returns-else-row : goal.returns-else-row
returns-else-row c = or_right _ _ _ (taken_or_done c.args.history.now c.args.rows.now c.requires.table c.args.at _ c.requires.within) c.if-row.false
