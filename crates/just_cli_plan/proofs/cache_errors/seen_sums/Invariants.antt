-- None of the events so far is a look at the node's cache.
use Rattle.std.proofs.Common.{◌≡◌, drop}
use Rattle.just_sched_history.specs.Cached.{seen_at}
use Rattle.just_cli_plan.proofs.cache_errors.seen_sums.Given as goal

abbrev pub invariant-events : goal.invariant-events
invariant-events l = seen_at (drop l.event-index l.history) l.number ≡ seen_at l.history l.number
