-- The entry was made to hold the text.
use Rattle.std.proofs.Common.{refl, subst, [], ◌∷◌}
use Rattle.just_path.specs.Path.{text_of}
use Rattle.just_host_record.specs.declared.entry.Entry.TheVariants as entry
use Rattle.just_sched_history.specs.Touched.{IsWritten}
use Rattle.just_sched_book.proofs.CacheGains.{changes_ok}
use Rattle.just_sched_book.proofs.cached.keep.Goals as goal

pub returns-in-Ok-clause-gains : goal.returns-in-Ok-clause-gains
returns-in-Ok-clause-gains g c =
    (entry.Saved (text_of c.args.entry) ∷ [], c.in-Ok.ensures.entries, refl, λ none. subst (λ t. IsWritten (text_of c.args.entry) t (g.H.Host.told c.args.host.now).world (g.H.Host.told c.save.new.self).world) c.as_bytes.ensures.value (changes_ok _ _ (g.H.Host.told c.args.host.now).world (g.H.Host.told c.save.new.self).world _ c.in-Ok.ensures.world))
