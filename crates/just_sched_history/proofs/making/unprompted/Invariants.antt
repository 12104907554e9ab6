-- So many flags so far, each of which says whether its node has no prompt.
use Rattle.std.proofs.Common.{◌≡◌, []}
use Rattle.std.specs.Prelude.{vec_len}
use Rattle.just_sched_history.specs.State.{is_confirmed}
use Rattle.just_sched_history.specs.Tables.{FlagsAre}
use Rattle.just_sched_history.proofs.making.unprompted.Given as goal

abbrev pub invariant-loop-at : goal.invariant-loop-at
invariant-loop-at l = record {
  len : vec_len l.flags ≡ l.at;
  flags : FlagsAre l.flags.items (is_confirmed l.plan.nodes []);
}
