-- What the host answered, told as what became of the entry.
use Rattle.just_path.specs.Path.{text_of}
use Rattle.just_cache.proofs.Told.{save_done, save_refused}
use Rattle.just_cache.proofs.lock.save_text.Goals as goal

pub returns-in-Ok-clause-saved : goal.returns-in-Ok-clause-saved
returns-in-Ok-clause-saved g c =
    save_done (g.H.Host.told c.args.host.now) _ (text_of c.args.path) c.as_bytes.result.now c.args.text.now c.as_bytes.ensures.value
    (record { entries = c.in-Ok.ensures.entries; own = c.in-Ok.ensures.own; world = c.in-Ok.ensures.world })

pub returns-in-Err-clause-saved : goal.returns-in-Err-clause-saved
returns-in-Err-clause-saved g c =
    save_refused (g.H.Host.told c.args.host.now) _ (text_of c.args.path) c.as_bytes.result.now c.args.text.now c.in-Err.fault _ _ c.as_bytes.ensures.value c.in_ok-named.ensures c.entry_error.ensures
    (record { entries = c.in-Err.ensures.entries; own = c.in-Err.ensures.own; world = c.in-Err.ensures.world })
