-- The law.
use Rattle.just_config_words.proofs.Laws.{one_meaning}
use Rattle.just_config_words.proofs.words.meanings_agree.Goals as goal

pub returns : goal.returns
returns c = one_meaning
