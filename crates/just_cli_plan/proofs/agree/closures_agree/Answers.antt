-- The law.
use Rattle.just_cli_plan.proofs.AgreeLaws.{closures_agree as law}
use Rattle.just_cli_plan.proofs.agree.closures_agree.Goals as goal

pub returns : goal.returns
returns c = law
