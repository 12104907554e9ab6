-- Without a justfile of the user's own; with one, run in the root of a project; and with one, without a root.
use Rattle.just_path.specs.Path.{text_of}
use Rattle.just_search.proofs.Owning.{own_nowhere, own_at_place, own_without_root}
use Rattle.just_search.proofs.finding.find_own_over.Goals as goal

pub returns-in-Err-clause-found : goal.returns-in-Err-clause-found
returns-in-Err-clause-found g c =
    own_nowhere (g.H.Host.told c.args.host.now).world c.args.config.now c.args.environ.now.pairs (g.H.Host.told c.args.host.now).entries (g.H.Host.told c.own_justfile.new.host).entries c.in-Err.error c.in-Err.ensures.found

pub returns-in-Ok-root_of-clause-found : goal.returns-in-Ok-root_of-clause-found
returns-in-Ok-root_of-clause-found g c =
    own_at_place (g.H.Host.told c.args.host.now).world (g.H.Host.told c.own_justfile.new.host).world c.args.config.now c.args.environ.now.pairs (g.H.Host.told c.args.host.now).entries (g.H.Host.told c.own_justfile.new.host).entries (g.H.Host.told c.root_of.new.host).entries c.in-Ok.file c.in-Ok-root_of.working_directory (text_of c.as_path-start.result)
    c.own_justfile.ensures.world c.as_path-start.ensures c.in-Ok.ensures.found c.in-Ok-root_of.ensures.root c.in-Ok-root_of.ensures.entries

pub returns-in-Err-root_of-clause-found : goal.returns-in-Err-root_of-clause-found
returns-in-Err-root_of-clause-found g c =
    own_without_root (g.H.Host.told c.args.host.now).world (g.H.Host.told c.own_justfile.new.host).world c.args.config.now c.args.environ.now.pairs (g.H.Host.told c.args.host.now).entries (g.H.Host.told c.own_justfile.new.host).entries (g.H.Host.told c.root_of.new.host).entries c.in-Ok.file (text_of c.as_path-start.result) c.in-Err-root_of.error
    c.own_justfile.ensures.world c.as_path-start.ensures c.in-Ok.ensures.found c.in-Err-root_of.ensures.root c.in-Err-root_of.ensures.entries
