-- The text is made anew, or refused by the source.
use Rattle.std.proofs.Common.{inr}
use Rattle.just_cli.proofs.Commanding.{anew_found, source_refused}
use Rattle.just_cli.proofs.Planless.{formats_silent}
use Rattle.just_cli.proofs.commands.formatted_anew.Goals as goal

pub returns-in-Ok-anew-clause-anew : goal.returns-in-Ok-anew-clause-anew
returns-in-Ok-anew-clause-anew c = anew_found c.args.config.now c.args.environ.now.pairs c.args.source.now c.args.file c.args.path _ c.in-Ok.ensures.text _ (rw c.as_str.ensures at c.in-Ok-anew.ensures.anew)

pub returns-in-Err-anew-clause-refused : goal.returns-in-Err-anew-clause-refused
returns-in-Err-anew-clause-refused c = inr (anew_found c.args.config.now c.args.environ.now.pairs c.args.source.now c.args.file c.args.path _ c.in-Ok.ensures.text _ (rw c.as_str.ensures at c.in-Err-anew.ensures.anew))

pub returns-in-Err-anew-clause-silent : goal.returns-in-Err-anew-clause-silent
returns-in-Err-anew-clause-silent c =
    formats_silent c.args.config.now c.args.environ.now.pairs c.args.source.now c.args.file c.args.path _ (inr (anew_found c.args.config.now c.args.environ.now.pairs c.args.source.now c.args.file c.args.path _ c.in-Ok.ensures.text _ (rw c.as_str.ensures at c.in-Err-anew.ensures.anew)))

pub returns-in-Err-clause-refused : goal.returns-in-Err-clause-refused
returns-in-Err-clause-refused c = source_refused c.args.config.now c.args.environ.now.pairs c.args.source.now c.args.file c.args.path _ c.in-Err.ensures.refused

pub returns-in-Err-clause-silent : goal.returns-in-Err-clause-silent
returns-in-Err-clause-silent c = formats_silent c.args.config.now c.args.environ.now.pairs c.args.source.now c.args.file c.args.path _ (source_refused c.args.config.now c.args.environ.now.pairs c.args.source.now c.args.file c.args.path _ c.in-Err.ensures.refused)
