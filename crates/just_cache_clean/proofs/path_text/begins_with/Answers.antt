-- What stands behind the other text decides.
use Rattle.just_cache_clean.proofs.Begins.{begins_so}
use Rattle.just_cache_clean.proofs.path_text.begins_with.Goals as goal

pub returns-in-Some : goal.returns-in-Some
returns-in-Some c = begins_so c.args.text.now c.args.prefix.now c.in-Some.rest.now c.ends_name.result c.in-Some.ensures c.ends_name.ensures
