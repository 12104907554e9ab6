-- What the loader loads is the source of the file; a refusal is the error of the search.
use Rattle.just_cli.proofs.Reading.{read_gains, one_source, no_source, unread_source}
use Rattle.just_cli.proofs.commands.read_source.Goals as goal

pub returns-in-Ok-clause-grew : goal.returns-in-Ok-clause-grew
returns-in-Ok-clause-grew g c = read_gains _ _ c.in-Ok.ensures.entries

pub returns-in-Ok-clause-source : goal.returns-in-Ok-clause-source
returns-in-Ok-clause-source g c = one_source _ _ _ _ c.new-loader.ensures c.in-Ok.ensures.loaded

pub returns-in-Err-clause-grew : goal.returns-in-Err-clause-grew
returns-in-Err-clause-grew g c = no_source (g.H.Host.told c.args.host.now).world _ _ _ _ c.in-Err.error _ c.in-Err.ensures.refused c.in-Err.ensures.entries c.from.ensures

pub returns-in-Err-clause-refused : goal.returns-in-Err-clause-refused
returns-in-Err-clause-refused g c = unread_source (g.H.Host.told c.args.host.now).world _ _ c.in-Err.error _ c.in-Err.ensures.refused c.from.ensures
