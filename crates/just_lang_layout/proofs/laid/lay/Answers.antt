-- Files have one table of targets, so one layout.
use Rattle.just_lang_layout.proofs.Layouts.{no_other}
use Rattle.just_lang_layout.proofs.laid.lay.Goals as goal

pub returns-clause-only : goal.returns-clause-only
returns-clause-only c = no_other c.args.sources.now c.args.environ.now.pairs c.layout_of.result c.layout_of.ensures.found
