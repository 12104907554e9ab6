-- The laws.
use Rattle.just_env.proofs.Agreed.{dotenv_agrees}
use Rattle.just_env.proofs.Alone.{dotenv_alone}
use Rattle.just_env.proofs.law.dotenv_agrees.Goals as goal

pub returns-clause-agrees : goal.returns-clause-agrees
returns-clause-agrees c = dotenv_agrees

pub returns-clause-alone : goal.returns-clause-alone
returns-clause-alone c = dotenv_alone
