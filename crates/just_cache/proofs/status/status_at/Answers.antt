-- What the host answered, told as a status.
use Rattle.just_path.specs.Path.{text_of}
use Rattle.just_cache.proofs.Told.{status_looked, status_refused}
use Rattle.just_cache.proofs.status.status_at.Goals as goal

pub returns-in-Ok-clause-status : goal.returns-in-Ok-clause-status
returns-in-Ok-clause-status g c =
    status_looked (g.H.Host.told c.args.host.now) _ (text_of c.args.path) c.args.outputs.now c.args.recipe c.in-Ok.look _ _ c.in_ok-named.ensures c.status_of.ensures
    (record { entries = c.in-Ok.ensures.entries; own = c.in-Ok.ensures.own; shown = c.in-Ok.ensures.told; world = c.in-Ok.ensures.world })

pub returns-in-Err-clause-status : goal.returns-in-Err-clause-status
returns-in-Err-clause-status g c =
    status_refused (g.H.Host.told c.args.host.now) _ (text_of c.args.path) c.args.outputs.now c.args.recipe c.in-Err.fault _ _ c.in_ok-named.ensures c.entry_error.ensures
    (record { entries = c.in-Err.ensures.entries; own = c.in-Err.ensures.own; shown = c.in-Err.ensures.told; world = c.in-Err.ensures.world })
