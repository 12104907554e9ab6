-- The names so far have their digests.
use Rattle.std.proofs.Common.{◌≡◌, take, map, zip}
use Rattle.hex.specs.Hex.{encode_lower}
use Rattle.just_sched_history.proofs.entries.digests.Given as goal

abbrev pub invariant-names : goal.invariant-names
invariant-names l = l.pairs.items ≡ take l.at (zip l.names (map encode_lower l.sums))
