-- What `rsplit_once` answers, by the parts.
use Rattle.just_config.proofs.Cuts.{cut_last}
use Rattle.just_config.proofs.cut.cut_last.Goals as goal

pub returns : goal.returns
returns c = cut_last c.args.sign c.args.text.now c.rsplit_once.result c.rsplit_once.ensures.cases c.requires
