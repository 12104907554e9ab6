-- One more name is a path.
use Rattle.std.proofs.Common.{◌≡◌, ◌+◌, ◌++◌, List, drop, subst, sym}
use Rattle.just_lang_types.specs.declared.scope.Override.{Override}
use Rattle.just_config.specs.Config.{overrides_of}
use Rattle.just_config.proofs.ConfigSteps.{more_override_at, more_ill_at}
use Rattle.just_config.proofs.overrides.overrides_of.Goals as goal

pub pairs-preserved : goal.pairs-preserved
pairs-preserved c = record {
  ill = more_ill_at c.pairs.pair-index c.pair-item.result c.args.pairs.now c.in-Some.one _ c.pairs-test.true c.pair-item.is (rw c.in-Some.is at c.in_ok-one.ensures) c.pairs.invariant.ill;
  overrides =
      subst (λ (xs : List Override). xs ++ overrides_of (drop (c.pairs.pair-index + 1) c.args.pairs.now) ≡ overrides_of c.args.pairs.now) (sym c.in_ok-push-in-Some.ensures.items)
      (more_override_at c.pairs.overrides.items c.pairs.pair-index c.pair-item.result c.args.pairs.now c.in-Some.one _ c.pairs-test.true c.pair-item.is (rw c.in-Some.is at c.in_ok-one.ensures) c.pairs.invariant.overrides);
}
