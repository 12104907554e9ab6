-- The law.
use Rattle.just_search.proofs.Making.{makes_in_folders as law}
use Rattle.just_search.proofs.law.makes_in_folders.Goals as goal

pub returns : goal.returns
returns c = law
