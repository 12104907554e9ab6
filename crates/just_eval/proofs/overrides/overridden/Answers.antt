-- The variable of an override more.
use Rattle.just_eval.proofs.UnknownVariables.{one_overridden}
use Rattle.just_eval.proofs.overrides.overridden.Goals as goal

pub overrides-preserved : goal.overrides-preserved
overrides-preserved c =
    one_overridden c.args.overrides.now c.overrides.one-index c.one-item.result c.overrides.set c.insert.new.self c.in_ok-try_clone.field-0 c.in_ok-try_clone-2.field-0 c.overrides-test.true c.one-item.is c.in_ok-try_clone.ensures c.in_ok-try_clone-2.ensures
    c.in_ok-insert.ensures.updates c.overrides.invariant
