-- The bodies so far stand in front of what is left.
use Rattle.std.proofs.Common.{◌≡◌, ◌≤◌, ◌++◌}
use Rattle.just_cli_vectors.specs.Vectors.{run_events}
use Rattle.just_cli_vectors.proofs.bodies.is_history.Given as goal

abbrev pub invariant-bodies : goal.invariant-bodies
invariant-bodies l = record {
  within : l.number ≤ l.count;
  front : l.history ≡ run_events l.number ++ l.rest;
}
