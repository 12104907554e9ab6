-- Without one above.
use Rattle.just_path.specs.Path.{text_of}
use Rattle.just_search.proofs.Owning.{above_refused}
use Rattle.just_search.proofs.above.find_above.Goals as goal

pub returns-in-Err-clause-found : goal.returns-in-Err-clause-found
returns-in-Err-clause-found g c = above_refused (g.H.Host.told c.args.host.now).world c.args.config.now (text_of c.args.folder) c.in-Err.error c.in-Err.ensures.found
