-- Each node of the closure is planned, or one is refused.
use Rattle.std.proofs.Common.{map}
use Rattle.just_path.specs.Path.{text_of}
use Rattle.just_cli_plan.proofs.Chain.{closure_planned, closure_refused}
use Rattle.just_cli_plan.proofs.keys.plan_of_closure.Goals as goal

pub returns-in-Ok-clause-plan : goal.returns-in-Ok-clause-plan
returns-in-Ok-clause-plan c =
    closure_planned c.args.wanted.now c.args.request.now.scopes.now c.args.closure (map (λ m. m.now) c.args.request.now.modules.items)
    (text_of c.as_path-folder.result) c.as_path-folder.ensures c.in-Ok.planned c.in-Ok.ensures.nodes c.in-Ok.ensures.invocations c.in-Ok.ensures.messages

pub returns-in-Err-clause-refused : goal.returns-in-Err-clause-refused
returns-in-Err-clause-refused c =
    closure_refused c.args.wanted.now c.args.request.now.scopes.now c.args.closure (map (λ m. m.now) c.args.request.now.modules.items)
    (text_of c.as_path-folder.result) c.as_path-folder.ensures c.in-Err.error c.in-Err.ensures.refused
