-- The law.
use Rattle.just_cli.proofs.ChosenLaws.{choices_are_runs as law}
use Rattle.just_cli.proofs.law.choices_are_runs.Goals as goal

pub returns : goal.returns
returns c = law
