-- What the cuts tell, one behind the other.
use Rattle.just_cache_clean.proofs.Cuts.{no_second, second_cut}
use Rattle.just_cache_clean.proofs.entry_text.second_inside.Goals as goal

pub returns-in-None : goal.returns-in-None
returns-in-None c = no_second c.args.text.now c.args.digest.now c.in-None.ensures

pub returns-in-Some : goal.returns-in-Some
returns-in-Some c = second_cut c.args.text.now c.args.digest.now c.in-Some.rest.now c.inside.result c.in-Some.ensures c.inside.ensures
