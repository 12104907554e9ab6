-- The laws.
use Rattle.just_cli_plan.proofs.Laws.{plans_agree, plans_alone}
use Rattle.just_cli_plan.proofs.law.plans_agree.Goals as goal

pub returns-clause-agrees : goal.returns-clause-agrees
returns-clause-agrees c = plans_agree

pub returns-clause-alone : goal.returns-clause-alone
returns-clause-alone c = plans_alone
