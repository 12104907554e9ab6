-- The usage is that of the recipe.
use Rattle.just_print_commands.specs.Projects.{parts}
use Rattle.just_cli_texts.proofs.TargetLaws.{used_so, unshown}
use Rattle.just_cli_texts.proofs.targets.usage.Goals as goal

pub returns-in-Err-clause-refused : goal.returns-in-Err-clause-refused
returns-in-Err-clause-refused c = unshown (parts c.args.project) _ c.args.names.now c.in-Err.refused _ c.in-Err.ensures.refused c.error_of_show.ensures

pub returns-clause-used : goal.returns-clause-used
returns-clause-used c = used_so (parts c.args.project) c.args.names.now _ _ c.in-Ok.ensures.shown c.from.ensures
