-- Each step behind the dotenv pairs goes on from what the one before it found, or its refusal is the answer.
use Rattle.just_cli_plan.proofs.Chain.{values_refused, valued_plan, valued_refused}
use Rattle.just_cli_plan.proofs.project.plan_of_project.Goals as goal

pub returns-in-Err-clause-refused : goal.returns-in-Err-clause-refused
returns-in-Err-clause-refused c = values_refused c.args.wanted.now c.args.environ.now c.args.justfile.now c.args.dotenv.now _ c.in-Err.ensures.refused

pub returns-in-Ok-plan_of_keys-clause-plan : goal.returns-in-Ok-plan_of_keys-clause-plan
returns-in-Ok-plan_of_keys-clause-plan c =
    valued_plan c.args.wanted.now c.args.environ.now c.args.justfile.now c.args.dotenv.now c.in-Ok.scopes c.in-Ok.ensures.scopes _ c.in-Ok-plan_of_keys.ensures.plan

pub returns-clause-refused : goal.returns-clause-refused
returns-clause-refused c =
    valued_refused c.args.wanted.now c.args.environ.now c.args.justfile.now c.args.dotenv.now c.in-Ok.scopes c.in-Ok.ensures.scopes _ c.in-Err-plan_of_keys.ensures.refused
