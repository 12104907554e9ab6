-- The entry was looked at.
use Rattle.std.proofs.Common.{refl, [], ◌∷◌}
use Rattle.just_path.specs.Path.{text_of}
use Rattle.just_host_record.specs.declared.entry.Entry.TheVariants as entry
use Rattle.just_sched_book.proofs.CacheGains.{changes_ok}
use Rattle.just_sched_book.proofs.cached.probe.Goals as goal

pub returns-in-Ok-clause-gains : goal.returns-in-Ok-clause-gains
returns-in-Ok-clause-gains g c =
    (entry.Probed (text_of c.args.entry) c.args.outputs.now c.in-Ok.seen ∷ [], c.in-Ok.ensures.entries, refl, λ none. changes_ok _ _ _ _ _ c.in-Ok.ensures.world)
