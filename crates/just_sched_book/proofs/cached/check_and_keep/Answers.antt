-- The outputs were checked, and then the entry was made to hold the text.
use Rattle.std.proofs.Common.{ap, ◌∙◌, None, [], ◌∷◌}
use Rattle.just_path.specs.Path.{text_of}
use Rattle.just_host_record.specs.declared.entry.Entry.TheVariants as entry
use Rattle.just_sched_book.proofs.CacheGains.{saved_together}
use Rattle.just_sched_book.proofs.cached.check_and_keep.Goals as goal

pub returns-in-Ok-clause-gains : goal.returns-in-Ok-clause-gains
returns-in-Ok-clause-gains g c = λ sums at.
    saved_together c.args.plan.now sums (text_of c.args.entry) c.args.text.now c.keep.result
    (g.H.Host.told c.args.host.now) (g.H.Host.told c.check.new.host) (g.H.Host.told c.keep.new.host) c.in-Ok.ensures.gains.0 c.keep.ensures.gains.0
    at c.in-Ok.ensures.gains.1 (c.in-Ok.ensures.gains.2 ∙ ap (λ outputs. entry.Checked outputs None ∷ []) c.as_slice.ensures) c.in-Ok.ensures.world c.keep.ensures.gains.1 c.keep.ensures.gains.2 c.keep.ensures.gains.3
