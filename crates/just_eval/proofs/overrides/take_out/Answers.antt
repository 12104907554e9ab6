-- The variable of an assignment more is taken out.
use Rattle.just_eval.proofs.UnknownVariables.{one_taken}
use Rattle.just_eval.proofs.overrides.take_out.Goals as goal

pub assignments-preserved : goal.assignments-preserved
assignments-preserved c =
    one_taken c.args.assignments.now c.args.path.now c.args.left.now c.assignments.one-index c.one-item.result c.assignments.left c.remove.new.self c.in_ok-try_clone.field-0 c.in_ok-try_clone-2.field-0 c.assignments-test.true c.one-item.is c.in_ok-try_clone.ensures
    c.in_ok-try_clone-2.ensures c.remove.ensures.updates c.assignments.invariant
