-- Blank rows, and the progress of a run of which no event speaks, say that nothing happened.
use Rattle.std.proofs.Common.{arith, ◌∙◌}
use Rattle.just_sched_history.proofs.ClassLaws.{none_open}
use Rattle.just_sched_history.proofs.RowLaws.{table_blank}
use Rattle.just_sched_history.proofs.tables.Tables.new.Goals as goal

pub returns-clause-noted : goal.returns-clause-noted
returns-clause-noted c = ∣ record {
  rows = table_blank _ c.len-count.result (c.in_ok-rows.ensures.items_if_clones_equal (λ y e. e));
  placed = c.in_ok-progress.ensures.placed;
  closed = c.in_ok-progress.ensures.closed;
  none = c.in_ok-progress.ensures.none;
  told = c.in_ok-progress.ensures.told;
  heard = λ k lt sure. c.in_ok-progress.ensures.heard k lt ∙ sure;
  covered = c.in_ok-progress.ensures.covered _;
  prompted = c.in_ok-prompted.ensures.each;
  left = λ m lt. absurd (omega (arith, lt));
  classes = c.in_ok-classes.ensures.numbered;
  opened = none_open _ _ _ c.len-count.result (c.in_ok-opened.ensures.items_if_clones_equal (λ y e. e));
} ∣₁
