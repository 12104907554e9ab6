-- The pairs to come follow those so far.
use Rattle.std.proofs.Common.{◌≡◌, ◌++◌, length}
use Rattle.just_config.specs.Config.{pairs_of}
use Rattle.just_config.proofs.overrides.add_pairs.Given as goal

abbrev pub invariant-texts : goal.invariant-texts
invariant-texts l = l.pairs.items ++ pairs_of l.rest ≡ l.fn.pairs.items ++ pairs_of l.texts

abbrev pub decreases-texts : goal.decreases-texts
decreases-texts l = length l.rest
