-- The law.
use Rattle.just_cli.proofs.Laws.{first_answers as law}
use Rattle.just_cli.proofs.law.first_answers.Goals as goal

pub returns : goal.returns
returns c = law
