-- A body that can't be run is told.
use Rattle.just_cli_plan.proofs.Refusals.{plan_refused}
use Rattle.just_cli_plan.proofs.closure_plan.planned_node.Goals as goal

pub returns-in-Err-clause-refused : goal.returns-in-Err-clause-refused
returns-in-Err-clause-refused c = plan_refused _ c.in-Err.error c.in-Err.ensures.plan _ c.plan_error.ensures
