-- What `split_once` answers, by the parts.
use Rattle.just_config_words.proofs.Cuts.{cut_first}
use Rattle.just_config_words.proofs.cut.cut.Goals as goal

pub returns : goal.returns
returns c = cut_first c.args.sign c.args.text.now c.split_once.result c.split_once.ensures.cases c.requires
