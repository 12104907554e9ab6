-- Each node so far that has a prompt is a member.
use Rattle.std.proofs.Common.{◌≡◌, ℕ, ◌<◌, true, length}
use Rattle.std.specs.Prelude.{is_some}
use Rattle.just_sched_history.specs.Nodes.{prompt_at}
use Rattle.just_sched_history.specs.Tables.{flag}
use Rattle.just_sched_history.proofs.making.prompted_nodes.Given as goal

abbrev pub invariant-loop-at : goal.invariant-loop-at
invariant-loop-at l = record {
  size : l.set.size ≡ length l.plan.nodes;
  each : (m : ℕ) → m < l.at → is_some (prompt_at l.plan.nodes m) ≡ true → flag l.set.flags.items m ≡ true;
}
