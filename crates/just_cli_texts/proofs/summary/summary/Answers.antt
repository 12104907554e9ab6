-- The paths are those that were found.
use Rattle.std.proofs.Common.{rules, ◌≡◌}
use Rattle.just_print_lists.specs.Summaries.{joined_line}
use Rattle.just_print_commands.specs.Projects.{parts}
use Rattle.just_cli_texts.specs.Prints.{no_recipes}
use Rattle.just_cli_texts.proofs.PrintLaws.{summed}
use Rattle.just_cli_texts.proofs.summary.summary.Goals as goal

pub returns : goal.returns
returns c =
    let paths = c.in_ok-paths.paths.items in
    let text : c.from-text.result ≡ joined_line paths = search rules in
    let told : c.in_ok-told.told ≡ no_recipes paths = search rules in
    summed c.args.config.now (parts c.args.project) paths c.from-text.result c.in_ok-told.told c.in_ok-paths.ensures text told
