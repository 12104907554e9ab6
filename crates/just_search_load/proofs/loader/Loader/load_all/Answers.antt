-- What was loaded is what the root leads to; a host that has no environment.
use Rattle.std.proofs.Common.{[], ◌∷◌, subst}
use Rattle.just_path.specs.Path.{text_of}
use Rattle.just_search_load.specs.Loads.{Loads, Ends}
use Rattle.just_search_load.specs.Shows.{sources_of}
use Rattle.just_search_load.proofs.Reaching.{whole_over}
use Rattle.just_search_load.proofs.Rooted.{root_unread}
use Rattle.just_search_load.proofs.loader.Loader.load_all.Goals as goal

pub returns-in-Ok-clause-whole : goal.returns-in-Ok-clause-whole
returns-in-Ok-clause-whole g c =
    whole_over (g.H.Host.told c.args.host.now).world (sources_of c.args.self.now) (sources_of c.load_over.new.self) (text_of c.args.root) c.in-Ok.environ c.load_over.result c.in-Ok.ensures.environ
    (subst (λ t. Ends (Loads t c.in-Ok.environ.pairs (sources_of c.args.self.now) (text_of c.args.root ∷ [])) (sources_of c.load_over.new.self) c.load_over.result) c.in-Ok.ensures.world c.load_over.ensures.ends)

pub returns-in-Err-clause-ends : goal.returns-in-Err-clause-ends
returns-in-Err-clause-ends g c = root_unread (g.H.Host.told c.args.host.now).world (sources_of c.args.self.now) (text_of c.args.root) c.in-Err.error c.in-Err.ensures.environ
