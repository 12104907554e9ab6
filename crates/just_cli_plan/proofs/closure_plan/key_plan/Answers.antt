-- What is given of the recipe is given of the key.
use Rattle.std.proofs.Common.{map}
use Rattle.just_path.specs.Path.{text_of}
use Rattle.just_cli_plan.proofs.KeyPlans.{key_given}
use Rattle.just_cli_plan.proofs.closure_plan.key_plan.Goals as goal

pub returns-clause-plan : goal.returns-clause-plan
returns-clause-plan c =
    key_given c.args.flags.now (text_of c.args.folder) (map (λ m. m.now) c.args.request.now.modules.items) c.args.request.now.scopes.now c.args.key.now
    c.in-Some.from c.as_slice-values.result.now c.recipe_plan.result c.in-Some.ensures c.as_slice-values.ensures c.recipe_plan.ensures.plan
