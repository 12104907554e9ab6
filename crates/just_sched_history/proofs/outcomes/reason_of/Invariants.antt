-- The first reason behind is the first of all.
use Rattle.std.proofs.Common.{◌≡◌, drop}
use Rattle.std.specs.Prelude.{filter_map}
use Rattle.just_sched_history.specs.State.{reason_in, reason_of, first}
use Rattle.just_sched_history.proofs.outcomes.reason_of.Given as goal

abbrev pub invariant-loop-event : goal.invariant-loop-event
invariant-loop-event l = first (filter_map (reason_in l.node) (drop l.event-index l.history)) ≡ reason_of l.history l.node
