-- The law.
use Rattle.just_cli.proofs.DryRecord.{dry_runs_run_nothing}
use Rattle.just_cli.proofs.law.dry_runs_run_nothing.Goals as goal

pub returns : goal.returns
returns c = dry_runs_run_nothing
