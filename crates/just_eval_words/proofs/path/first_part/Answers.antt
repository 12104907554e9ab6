-- What `split_once` answers, by the parts.
use Rattle.just_eval_words.proofs.Parts.{first_part}
use Rattle.just_eval_words.proofs.path.first_part.Goals as goal

pub returns : goal.returns
returns c = first_part c.args.word.now c.split_once.result c.split_once.ensures.cases
