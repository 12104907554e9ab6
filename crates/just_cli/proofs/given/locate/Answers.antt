-- The place is the one that the search found; a refusal is the error of the search.
use Rattle.just_cli.proofs.Locating.{is_located, is_not_located}
use Rattle.just_cli.proofs.given.locate.Goals as goal

pub returns-in-Ok-clause-located : goal.returns-in-Ok-clause-located
returns-in-Ok-clause-located g c = is_located (g.H.Host.told c.args.host.now) (g.H.Host.told c.find.new.host) c.args.config.now _ c.in-Ok.ensures.found c.in-Ok.ensures.entries

pub returns-in-Err-clause-located : goal.returns-in-Err-clause-located
returns-in-Err-clause-located g c = is_not_located (g.H.Host.told c.args.host.now) (g.H.Host.told c.find.new.host) c.args.config.now c.in-Err.error _ c.in-Err.ensures.found c.in-Err.ensures.entries c.from.ensures
