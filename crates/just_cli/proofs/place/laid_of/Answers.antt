-- What the sources of a justfile make is its project; or one of the steps is refused.
use Rattle.just_cli.proofs.Chain.{no_sources, project_made, project_unmade}
use Rattle.just_cli.proofs.Planless.{sources_silent}
use Rattle.just_cli.proofs.Prepared.{left_misses}
use Rattle.just_cli.proofs.place.laid_of.Goals as goal

pub returns-in-Err-clause-refused : goal.returns-in-Err-clause-refused
returns-in-Err-clause-refused g c = no_sources _ _ _ _ _ c.in-Err.ensures.refused

pub returns-in-Ok-laid_of_sources-clause-project : goal.returns-in-Ok-laid_of_sources-clause-project
returns-in-Ok-laid_of_sources-clause-project g c = project_made _ _ _ _ _ c.in-Ok.ensures.sources _ (rw c.sources.ensures at c.in-Ok-laid_of_sources.ensures.laid)

pub returns-clause-grew : goal.returns-clause-grew
returns-clause-grew g c = left_misses _ _ _ (sources_silent _ _ (rw c.sources.ensures at c.in-Err-laid_of_sources.ensures.refused)) c.in-Ok.ensures.grew

pub returns-clause-refused : goal.returns-clause-refused
returns-clause-refused g c = project_unmade _ _ _ _ _ c.in-Ok.ensures.sources _ (rw c.sources.ensures at c.in-Err-laid_of_sources.ensures.refused)
