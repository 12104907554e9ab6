-- The law.
use Rattle.just_search.proofs.Placing.{removes_in_folders as law}
use Rattle.just_search.proofs.law.removes_in_folders.Goals as goal

pub returns : goal.returns
returns c = law
