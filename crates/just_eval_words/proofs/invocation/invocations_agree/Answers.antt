-- The law.
use Rattle.just_eval_words.proofs.Agree.{agree}
use Rattle.just_eval_words.proofs.invocation.invocations_agree.Goals as goal

pub returns : goal.returns
returns c = agree
