-- What is listed of the parts of the project is listed of the project.
use Rattle.just_print_commands.specs.Projects.{parts}
use Rattle.just_cli_texts.specs.Laid.{laid_by}
use Rattle.just_cli_texts.specs.Wholes.{parts_in}
use Rattle.just_cli_texts.proofs.DefaultLaws.{lists_so}
use Rattle.just_cli_texts.proofs.defaults.listing.Goals as goal

pub returns : goal.returns
returns c =
    lists_so c.args.environ.now.pairs c.args.config.now (laid_by c.args.laid.now) c.args.names.now (parts_in c.in_ok-whole.whole) (parts c.project.result) c.in_ok-whole.ensures.parts c.project.ensures _ _ c.list-text.ensures.listed c.list-text.ensures.refused
    c.alone_or.ensures
