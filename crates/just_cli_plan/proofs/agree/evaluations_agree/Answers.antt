-- The law.
use Rattle.just_cli_plan.proofs.AgreeLaws.{evaluations_agree as law}
use Rattle.just_cli_plan.proofs.agree.evaluations_agree.Goals as goal

pub returns : goal.returns
returns c = law
