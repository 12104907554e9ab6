-- The text is that of the source's tree; or the source has none.
use Rattle.just_cli_texts.proofs.FormatLaws.{formatted_so, unformatted}
use Rattle.just_cli_texts.proofs.format.formatted.Goals as goal

pub returns-in-Err-clause-refused : goal.returns-in-Err-clause-refused
returns-in-Err-clause-refused c = unformatted c.args.config.now c.args.environ.now.pairs c.args.source.now c.in-Err.error _ c.in-Err.ensures.refused c.from.ensures

pub returns-clause-text : goal.returns-clause-text
returns-clause-text c = formatted_so c.args.config.now c.args.environ.now.pairs c.args.source.now _ _ c.in-Ok.ensures.found (rw c.as_slice.ensures at c.in_ok-text.ensures)
