-- The number of statuses so far with those behind is the number of all.
use Rattle.std.proofs.Common.{◌≡◌, ◌+◌, ◌≤◌, drop, length}
use Rattle.std.specs.Prelude.{filter_map}
use Rattle.just_sched_history.specs.State.{status_of, statuses}
use Rattle.just_sched_history.proofs.outcomes.status_count.Given as goal

abbrev pub invariant-loop-event : goal.invariant-loop-event
invariant-loop-event l = record {
  counted : l.count + length (filter_map (status_of l.node) (drop l.event-index l.history)) ≡ length (statuses l.history l.node);
  few : l.count ≤ l.event-index;
}
