-- The law that projects end, as the lemmas beside it prove it.
use Rattle.just_cli_plan.proofs.EndingLaws.{projects_end as law}
use Rattle.just_cli_plan.proofs.ends.projects_end.Goals as goal

-- src/lib.rt:8:1
pub returns : goal.returns
returns c = law
