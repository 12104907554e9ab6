-- The law.
use Rattle.just_cli.proofs.FolderActs.{runs_no_child}
use Rattle.just_cli.proofs.law.dry_runs_run_no_child.Goals as goal

pub returns : goal.returns
returns c = runs_no_child
