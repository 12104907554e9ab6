-- Both steps, one behind the other.
use Rattle.just_cli.proofs.NewPath.{no_path, is_free, is_taken}
use Rattle.just_cli.proofs.init.find_free.Goals as goal

pub returns-in-Err-clause-refused : goal.returns-in-Err-clause-refused
returns-in-Err-clause-refused g c = no_path _ _ _ c.in-Err.ensures.refused

pub returns-in-Ok-if_free-clause-free : goal.returns-in-Ok-if_free-clause-free
returns-in-Ok-if_free-clause-free g c = is_free _ _ _ c.in-Ok.ensures.path _ c.find_path.ensures.world _ c.in-Ok-if_free.ensures.free

pub returns-in-Err-if_free-clause-refused : goal.returns-in-Err-if_free-clause-refused
returns-in-Err-if_free-clause-refused g c = is_taken _ _ _ c.in-Ok.ensures.path _ c.find_path.ensures.world _ c.in-Err-if_free.ensures.refused
