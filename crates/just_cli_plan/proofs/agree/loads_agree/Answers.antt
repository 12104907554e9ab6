-- The laws.
use Rattle.just_cli_plan.proofs.AgreeLaws.{loads_agree, roots_agree}
use Rattle.just_cli_plan.proofs.agree.loads_agree.Goals as goal

pub returns-clause-loads : goal.returns-clause-loads
returns-clause-loads c = loads_agree

pub returns-clause-roots : goal.returns-clause-roots
returns-clause-roots c = roots_agree
