-- The pairs so far are added.
use Rattle.std.proofs.Common.{◌≡◌, ◌++◌, take}
use Rattle.just_config.proofs.overrides.add_named.Given as goal

abbrev pub invariant-more : goal.invariant-more
invariant-more l = l.pairs.items ≡ l.fn.pairs.items ++ take l.pair-index l.more
