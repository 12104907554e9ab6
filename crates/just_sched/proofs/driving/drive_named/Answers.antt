-- A book that was opened, run until it is idle, and closed is a run that was driven.
use Rattle.std.proofs.Common.{ap, sym, ◌∙◌, subst}
use Rattle.just_sched_history.specs.Legal.{IsClosed}
use Rattle.just_sched_history.specs.Running.{EachNoIsDone}
use Rattle.just_sched_history.specs.Start.{run_of}
use Rattle.just_sched_history.specs.State.{is_open}
use Rattle.just_sched_history.specs.Idle.{IsIdle}
use Rattle.just_sched_history.proofs.CacheRules.{kept_skipped}
use Rattle.just_sched_book.proofs.Ended.{nothing_left_by, well_complete}
use Rattle.just_sched.proofs.driving.drive_named.Goals as goal

pub close-requires-after_bounds : goal.close-requires-after_bounds
close-requires-after_bounds g c _ _ = λ n lt. ap (λ b. is_open b.history.items n) c.into_book.ensures ∙ c.run_all.ensures.closed n

pub returns-clause-driven : goal.returns-clause-driven
returns-clause-driven g c =
    let s = g.P.Naming.start in
    let d = c.close.result in
    let same = c.close.ensures.history ∙ ap (λ b. b.history.items) c.into_book.ensures in
    let closed : IsClosed (run_of s) d.history = λ n lt. ap (λ h. is_open h n) same ∙ c.run_all.ensures.closed n in
    let i = c.run_all.ensures.idle.0 in
    let is = subst (λ h. IsIdle (run_of s) h i) (sym same) c.run_all.ensures.idle.1 in
    let left = nothing_left_by (run_of s) d.history i c.args.jobs c.requires.jobs closed is in
    let complete = well_complete s d.history _ d.verdict c.close.ensures.kept (subst EachNoIsDone (sym c.close.ensures.history) c.into_book.result.answered) closed left c.close.ensures.verdict in
    record {
      plan = c.close.ensures.plan ∙ c.into_book.result.plan_named;
      kept = c.close.ensures.kept;
      closed = closed;
      idle = (i, is);
      nothing_left = left;
      verdict = c.close.ensures.verdict;
      complete = complete;
      cached = c.close.ensures.cached;
      skipped = λ well n lt cached. kept_skipped s d.history _ c.close.ensures.kept (complete well) n lt;
    }
