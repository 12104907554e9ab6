-- The error of a node is that of the last reason that its history tells.
use Rattle.std.proofs.Common.{◌≡◌, List, Some, length, slice_get, refl, subst}
use Rattle.std.proofs.lemmas.Option.{slice_get_read}
use Rattle.just_sched_history.specs.declared.plan_node.PlanNode.{PlanNode}
use Rattle.just_cli_plan.proofs.Told.{told_node, untold_node}
use Rattle.just_cli_plan.proofs.outcome.error_of.Goals as goal

pub returns-in-Ok : goal.returns-in-Ok
returns-in-Ok c =
    let there = slice_get_read c.as_slice.result.now (length c.as_slice.result.now) c.args.number c.in-Some.node.now refl c.in-Some.ensures.lookup.3.0 c.in-Some.ensures.lookup.1 in
    told_node c.args.plan.now.nodes c.args.messages.now c.args.history.now c.args.number c.in-Some.node.now c.is_told-message.result c.reason_of-reason.result
    (subst (λ (xs : List PlanNode). slice_get xs c.args.number ≡ Some c.in-Some.node.now) c.as_slice.ensures there) c.is_told-message.ensures c.reason_of-reason.ensures c.in-Ok.error c.in-Ok.ensures.error

pub returns-in-Err : goal.returns-in-Err
returns-in-Err c =
    let there = slice_get_read c.as_slice.result.now (length c.as_slice.result.now) c.args.number c.in-Some.node.now refl c.in-Some.ensures.lookup.3.0 c.in-Some.ensures.lookup.1 in
    untold_node c.args.plan.now.nodes c.args.messages.now c.args.history.now c.args.number c.in-Some.node.now c.is_told-message.result c.reason_of-reason.result
    (subst (λ (xs : List PlanNode). slice_get xs c.args.number ≡ Some c.in-Some.node.now) c.as_slice.ensures there) c.is_told-message.ensures c.reason_of-reason.ensures c.in-Err.ensures.wanting
