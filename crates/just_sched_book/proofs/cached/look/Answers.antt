-- The inputs were summed, and then the entry was looked at.
use Rattle.std.proofs.Common.{◌≡◌, ◌∙◌, ap, ap₂, sym, subst, length, Ok, Err, false}
use Rattle.std.specs.List.{list_any}
use Rattle.just_host_record.specs.Record.{is_failed}
use Rattle.just_sched_history.specs.Cached.{entry_of}
use Rattle.just_sched_book.specs.Gains.{ProbeGain}
use Rattle.just_sched_history.specs.Match.{summed_entries}
use Rattle.just_sched_history.specs.Touched.{IsLooked}
use Rattle.just_sched_book.proofs.CacheGains.{looked_together, unlooked_together}
use Rattle.just_sched_book.proofs.cached.look.Goals as goal

pub returns-in-Ok-look_at-clause-gains : goal.returns-in-Ok-look_at-clause-gains
returns-in-Ok-look_at-clause-gains g c =
    let plan = c.args.plan.now in
    let same : c.as_slice-2.result.now ≡ c.from.result = c.as_slice-2.ensures.value ∙ sym c.from.ensures in
    let first = c.in-Ok.ensures.gains in
    let second = c.in-Ok-look_at.ensures.gains in
    looked_together plan c.from.result (g.H.Host.told c.args.host.now) (g.H.Host.told c.sum_all.new.host) (g.H.Host.told c.look_at.new.host) first.0 second.0
    first.1 (ap length c.from.ensures ∙ first.2.0 ∙ ap length c.as_slice.ensures) (first.2.1 ∙ ap₂ summed_entries c.as_slice.ensures (sym c.from.ensures)) c.in-Ok.ensures.world second.1
    c.in-Ok-look_at.seen (subst (λ s. ProbeGain (entry_of plan s) plan.outputs (Ok c.in-Ok-look_at.seen) second.0) same second.2)
    (subst (λ s. list_any is_failed second.0 ≡ false → IsLooked (entry_of plan s) (g.H.Host.told c.sum_all.new.host).world (g.H.Host.told c.look_at.new.host).world) same second.3)

pub returns-in-Err-look_at-clause-gains : goal.returns-in-Err-look_at-clause-gains
returns-in-Err-look_at-clause-gains g c =
    let plan = c.args.plan.now in
    let same : c.as_slice-2.result.now ≡ c.in-Ok.sums.items = c.as_slice-2.ensures.value in
    let first = c.in-Ok.ensures.gains in
    let second = c.in-Err-look_at.ensures.gains in
    unlooked_together plan c.in-Ok.sums.items (g.H.Host.told c.args.host.now) (g.H.Host.told c.sum_all.new.host) (g.H.Host.told c.look_at.new.host) first.0 second.0
    first.1 (first.2.0 ∙ ap length c.as_slice.ensures) (first.2.1 ∙ ap (λ p. summed_entries p c.in-Ok.sums.items) c.as_slice.ensures) c.in-Ok.ensures.world second.1
    c.in-Err-look_at.reason (subst (λ s. ProbeGain (entry_of plan s) plan.outputs (Err c.in-Err-look_at.reason) second.0) same second.2) second.3
