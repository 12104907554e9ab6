-- The outputs were checked, and then the entry of the key was made to hold its text.
use Rattle.std.proofs.Common.{◌≡◌, ◌∙◌, subst}
use Rattle.just_path.specs.Path.{text_of}
use Rattle.just_sched_history.specs.Cached.{entry_of, saved_text}
use Rattle.just_sched_history.specs.Touched.{IsWritten}
use Rattle.just_sched_book.specs.Gains.{LeavesWorld}
use Rattle.just_sched_book.proofs.cached.save.Goals as goal

pub returns-clause-gains : goal.returns-clause-gains
returns-clause-gains g c =
    let at : text_of c.as_path.result ≡ entry_of c.args.plan.now c.args.sums.now = c.as_path.ensures ∙ c.in-Ok.ensures in
    let holds : c.as_str.result.now ≡ saved_text c.args.plan.now = c.as_str.ensures.value ∙ c.in-Ok-text_of_entry.ensures in
    let p = c.check_and_keep.ensures.gains c.args.sums.now at in
    let old = (g.H.Host.told c.args.host.now).world in
    let new = (g.H.Host.told c.check_and_keep.new.host).world in (
      p.0,
      p.1,
      p.2,
      λ none. subst (λ k. LeavesWorld (λ done. IsWritten k (saved_text c.args.plan.now)) c.check_and_keep.result old new) at
          (subst (λ t. LeavesWorld (λ done. IsWritten (text_of c.as_path.result) t) c.check_and_keep.result old new) holds (p.3 none)),
    )
