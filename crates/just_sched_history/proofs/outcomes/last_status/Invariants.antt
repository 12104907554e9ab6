-- The last status so far, with those behind, gives the last of all.
use Rattle.std.proofs.Common.{◌≡◌, drop}
use Rattle.std.specs.Prelude.{filter_map, None}
use Rattle.std.specs.List.{last_or}
use Rattle.just_sched_history.specs.State.{status_of, statuses}
use Rattle.just_sched_history.proofs.outcomes.last_status.Given as goal

abbrev pub invariant-loop-event : goal.invariant-loop-event
invariant-loop-event l = last_or l.last (filter_map (status_of l.node) (drop l.event-index l.history)) ≡ last_or None (statuses l.history l.node)
