-- Each node to go on with stands before the last.
use Rattle.std.proofs.Common.{◌<◌, ℕ, Option, length, subst, ◌∙◌}
use Rattle.std.specs.Prelude.{IfSome}
use Rattle.just_sched_history.proofs.Parents.{nearer, below_too}
use Rattle.just_sched_history.proofs.progress.Progress.climb.Goals as goal

pub loop-next-smaller : goal.loop-next-smaller
loop-next-smaller c = nearer c.loop-next.next c.rise-next.result c.in-Some.at c.in-Some.is c.rise-next.ensures.less

pub loop-next-preserved : goal.loop-next-preserved
loop-next-preserved c =
    let n = length c.args.plan.now.nodes in
    record {
      within = below_too c.rise-next.result c.in-Some.at n (subst (λ (o : Option ℕ). IfSome o (λ k. k < n)) c.in-Some.is c.loop-next.invariant.within) c.rise-next.ensures.less;
      size = c.rise-next.ensures.size ∙ c.loop-next.invariant.size;
      confirmed = c.rise-next.ensures.confirmed ∙ c.loop-next.invariant.confirmed;
      placed = c.rise-next.ensures.placed;
      closed = c.rise-next.ensures.closed;
      due = c.rise-next.ensures.due ∙ c.loop-next.invariant.due;
      covered = λ gone began. c.rise-next.ensures.covered gone (c.loop-next.invariant.covered gone began);
      told = λ h told. c.rise-next.ensures.told h (c.loop-next.invariant.told h told);
    }
