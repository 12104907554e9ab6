-- The options are those of the configuration.
use Rattle.just_print_commands.specs.Projects.{parts}
use Rattle.just_cli_texts.proofs.TargetLaws.{listed, unlisted}
use Rattle.just_cli_texts.proofs.targets.list.Goals as goal

pub returns-in-Err-clause-refused : goal.returns-in-Err-clause-refused
returns-in-Err-clause-refused c =
    unlisted c.args.config.now (parts c.args.project) c.list_options-options.result c.args.names.now c.list_options-options.ensures c.in-Err.refused _ c.in-Err.ensures.refused c.error_of_list.ensures

pub returns-clause-listed : goal.returns-clause-listed
returns-clause-listed c = listed c.args.config.now (parts c.args.project) c.list_options-options.result c.args.names.now c.list_options-options.ensures _ _ c.in-Ok.ensures.listed c.from.ensures
