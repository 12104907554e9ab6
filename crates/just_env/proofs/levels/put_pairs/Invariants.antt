-- The pairs to come are put behind those so far.
use Rattle.std.proofs.Common.{◌≡◌, drop, map}
use Rattle.just_env.specs.Changes.{put_all, gets}
use Rattle.just_env.proofs.levels.put_pairs.Given as goal

abbrev pub invariant-pairs : goal.invariant-pairs
invariant-pairs l = put_all l.changes.entries (map gets (drop l.pair-index l.pairs)) ≡ put_all l.initial.changes.entries (map gets l.pairs)
