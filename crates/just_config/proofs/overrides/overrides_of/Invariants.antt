-- The overrides to come follow those so far, which are all paths.
use Rattle.std.proofs.Common.{◌≡◌, ◌++◌, drop}
use Rattle.just_config.specs.Config.{overrides_of, ill_override}
use Rattle.just_config.proofs.overrides.overrides_of.Given as goal

abbrev pub invariant-pairs : goal.invariant-pairs
invariant-pairs l = record {
  ill : ill_override (drop l.pair-index l.pairs) ≡ ill_override l.pairs;
  overrides : l.overrides.items ++ overrides_of (drop l.pair-index l.pairs) ≡ overrides_of l.pairs;
}
