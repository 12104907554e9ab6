-- What the host answered, told as a removal.
use Rattle.just_path.specs.Path.{text_of}
use Rattle.just_cache_clean.proofs.Steps.{removed_refused}
use Rattle.just_cache_clean.proofs.sweep.remove.Goals as goal

pub returns-in-Ok-clause-removed : goal.returns-in-Ok-clause-removed
returns-in-Ok-clause-removed g c = record { entries = c.in-Ok.ensures.entries; own = c.in-Ok.ensures.own; world = c.in-Ok.ensures.world }

pub returns-in-Err-clause-removed : goal.returns-in-Err-clause-removed
returns-in-Err-clause-removed g c =
    removed_refused (text_of c.args.path) c.in_ok-named.named (g.H.Host.told c.args.host.now) (g.H.Host.told c.remove.new.self) c.in-Err.fault c.entry_error.result c.in_ok-named.ensures c.entry_error.ensures
    (record { entries = c.in-Err.ensures.entries; own = c.in-Err.ensures.own; world = c.in-Err.ensures.world })
