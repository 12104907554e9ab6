-- What is given of the run is given of the recipe.
use Rattle.just_path.specs.Path.{text_of}
use Rattle.just_exec_work.specs.Works.{run_of}
use Rattle.just_cli_plan.proofs.KeyPlans.{recipe_given}
use Rattle.just_cli_plan.proofs.closure_plan.recipe_plan.Goals as goal

pub returns-clause-plan : goal.returns-clause-plan
returns-clause-plan c =
    recipe_given c.args.flags.now (text_of c.args.folder) c.args.scopes.now c.args.values.now c.args.from.now c.requires
    c.in_ok-lines.lines c.as_slice-lines.result.now c.in_ok-changes.changes c.as_slice.result.now (run_of c.running-run.result) c.run_plan.result
    c.in_ok-lines.ensures c.as_slice-lines.ensures c.in_ok-changes.ensures c.as_slice.ensures c.running-run.ensures c.run_plan.ensures.plan
