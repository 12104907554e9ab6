-- The law.
use Rattle.just_cli.proofs.DryChain.{dry_plans_agree}
use Rattle.just_cli.proofs.law.dry_runs_plan_the_same.Goals as goal

pub returns : goal.returns
returns c = dry_plans_agree
