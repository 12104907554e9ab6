-- What is printed of the parts of the project is printed of the project.
use Rattle.std.proofs.Common.{rules, ◌≡◌, Some}
use Rattle.just_print_commands.specs.Projects.{parts}
use Rattle.just_cli_texts.specs.Laid.{laid_by}
use Rattle.just_cli_texts.specs.Wholes.{parts_in}
use Rattle.just_cli_texts.proofs.PrintLaws.{prints_so}
use Rattle.just_cli_texts.proofs.printing.prints.Goals as goal

pub returns : goal.returns
returns c =
    let is : c.args.config.now.subcommand ≡ Some c.in-Some.command = search rules in
    prints_so c.args.environ.now.pairs c.args.config.now (laid_by c.args.laid.now) (parts_in c.in_ok-whole.whole) (parts c.project.result) c.in-Some.command c.in_ok-whole.ensures.parts c.project.ensures is _ c.prints_of.ensures
