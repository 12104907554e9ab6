-- The law that sources come to one thing, as the lemmas beside it prove it.
use Rattle.just_cli_plan.proofs.OneProjectLaws.{projects_agree as law}
use Rattle.just_cli_plan.proofs.one.projects_agree.Goals as goal

-- src/lib.rt:9:1
pub returns : goal.returns
returns c = law
