-- The entry of the key was looked at.
use Rattle.std.proofs.Common.{◌≡◌, ◌∙◌, subst}
use Rattle.just_path.specs.Path.{text_of}
use Rattle.just_sched_history.specs.Cached.{entry_of}
use Rattle.just_sched_book.specs.Gains.{ProbeGain, LeavesWorld}
use Rattle.just_sched_history.specs.Touched.{IsLooked}
use Rattle.just_sched_book.proofs.cached.look_at.Goals as goal

pub returns-in-Ok-clause-gains : goal.returns-in-Ok-clause-gains
returns-in-Ok-clause-gains g c =
    let at : text_of c.as_path.result ≡ entry_of c.args.plan.now c.args.sums.now = c.as_path.ensures ∙ c.in-Ok.ensures in
    let p = c.probe.ensures.gains in
    (p.0, p.1, subst (λ k. ProbeGain k c.args.plan.now.outputs c.probe.result p.0) at (subst (λ o. ProbeGain (text_of c.as_path.result) o c.probe.result p.0) c.as_slice.ensures p.2), λ none. subst (λ k. LeavesWorld (λ seen. IsLooked k) c.probe.result (g.H.Host.told c.args.host.now).world (g.H.Host.told c.probe.new.host).world) at (p.3 none))
