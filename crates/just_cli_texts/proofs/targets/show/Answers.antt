-- The recipe is shown by the indentation of the configuration.
use Rattle.just_print_commands.specs.Projects.{parts}
use Rattle.just_cli_texts.proofs.TargetLaws.{shown_so, unshown}
use Rattle.just_cli_texts.proofs.targets.show.Goals as goal

pub returns-in-Err-clause-refused : goal.returns-in-Err-clause-refused
returns-in-Err-clause-refused c = unshown (parts c.args.project) _ c.args.names.now c.in-Err.refused _ c.in-Err.ensures.refused c.error_of_show.ensures

pub returns-clause-shown : goal.returns-clause-shown
returns-clause-shown c = shown_so c.args.config.now (parts c.args.project) c.args.names.now _ _ _ c.in-Ok.ensures.shown c.borrowed-given.ensures c.from.ensures
