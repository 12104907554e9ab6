-- Over the environment; and without one.
use Rattle.just_search.proofs.Owning.{own_no_environ, own_over_environ}
use Rattle.just_search.proofs.finding.find_own.Goals as goal

pub returns-in-Ok-clause-found : goal.returns-in-Ok-clause-found
returns-in-Ok-clause-found g c =
    own_over_environ (g.H.Host.told c.args.host.now).world (g.H.Host.told c.environment.new.host).world c.args.config.now c.in-Ok.environ (g.H.Host.told c.args.host.now).entries (g.H.Host.told c.environment.new.host).entries (g.H.Host.told c.find_own_over.new.host).entries c.find_own_over.result
    c.environment.ensures.world c.in-Ok.ensures.environ c.in-Ok.ensures.entries c.find_own_over.ensures.found

pub returns-in-Err-clause-found : goal.returns-in-Err-clause-found
returns-in-Err-clause-found g c =
    own_no_environ (g.H.Host.told c.args.host.now).world c.args.config.now (g.H.Host.told c.args.host.now).entries (g.H.Host.told c.environment.new.host).entries c.in-Err.error c.in-Err.ensures.environ c.in-Err.ensures.entries
